-- BadFrame comes exactly where the numbers are those of no leaf.
use Rattle.std.proofs.Common.{◌≡◌, ◌↔◌, Bool, true, false, List, Option, Some, None, Ok, Err, refl, if◌then◌else◌}
use Rattle.std.specs.Prelude.{ℤ}
use Rattle.bc_tree.specs.Decided.{is_solid_leaf}
use Rattle.bc_tree.specs.declared.tree.Leaf.{Leaf as ALeaf}
use Rattle.bc_tree.specs.declared.tree.Tree.TheVariants as trees
use Rattle.bc_read.specs.declared.fault.CsgFault.TheVariants.{BadFrame, Mixed}
use Rattle.bc_read.specs.declared.part.Form.{Form}
use Rattle.bc_read.specs.declared.reading.Place.{Place}
use Rattle.bc_read.specs.declared.reading.Open.{Open}
use Rattle.bc_read.specs.Leaves.{Says, Tells, leaf_of}
use Rattle.bc_read.specs.Machine.{add, mixes, with_leaf}
use Rattle.bc_read.specs.Laws.{BadFrameExactly}
use Rattle.bc_read.proofs.ShortTests.{leaf_tells}

not-frame : (l : ALeaf) (f : Place) (stack : List Open) (c : Bool) → (if c then Err (Mixed f.line f.token) else Ok (add (trees.Leaf l) stack (Some (is_solid_leaf l)))) ≡ Err (BadFrame f.line f.token) → ⊥
not-frame l f stack true e = cc e
not-frame l f stack false e = cc e

frame-by : (q : Option ALeaf) (form : Form) (ns : List ℤ) (f : Place) (stack : List Open) (seen : Option Bool) → Tells q form ns
    → ((with_leaf q f stack seen ≡ Err (BadFrame f.line f.token)) ↔ ((l : ALeaf) → Says form ns l → ⊥))
frame-by None form ns f stack seen t = (λ e. t, λ h. refl)
frame-by (Some l) form ns f stack seen t = (λ e. absurd (not-frame l f stack (mixes seen (is_solid_leaf l)) e), λ h. absurd (h l t))

pub bad_frame_exactly : BadFrameExactly
bad_frame_exactly form ns f stack seen = frame-by (leaf_of form ns) form ns f stack seen (leaf_tells form ns)
