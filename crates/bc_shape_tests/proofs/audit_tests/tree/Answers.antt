use Rattle.std.proofs.Common.{[], ◌∷◌, sym, subst}
use Rattle.std.proofs.lemmas.List.Elements.{All-nil, All-cons}
use Rattle.bc_tree.specs.declared.tree.Leaf.TheVariants.{Block}
use Rattle.bc_tree.specs.Shape.{Shape, AllLeaves}
use Rattle.bc_tree.specs.Leaves.{IsLeaf}
use Rattle.bc_tree.proofs.Covers.{cover_leaves}
use Rattle.bc_shape_tests.proofs.audit_tests.tree.Goals as goal

pub returns-in-Ok : goal.returns-in-Ok
returns-in-Ok c =
    let x = c.in_ok-slab.field-0 in
    let y = c.in_ok-slab-2.field-0 in
    let z = c.in_ok-slab-3.field-0 in
    let u = c.in_ok-slab-4.field-0 in
    let v = c.in_ok-slab-5.field-0 in
    subst (λ (s : Shape). AllLeaves IsLeaf s) (sym c.in-Ok.ensures)
    (cover_leaves IsLeaf (Block c.args.block) (x ∷ (y ∷ (z ∷ (u ∷ (v ∷ []))))) c.push.new.self c.requires
    (All-cons IsLeaf x (y ∷ (z ∷ (u ∷ (v ∷ [])))) c.in_ok-slab.ensures
    (All-cons IsLeaf y (z ∷ (u ∷ (v ∷ []))) c.in_ok-slab-2.ensures
    (All-cons IsLeaf z (u ∷ (v ∷ [])) c.in_ok-slab-3.ensures
    (All-cons IsLeaf u (v ∷ []) c.in_ok-slab-4.ensures (All-cons IsLeaf v [] c.in_ok-slab-5.ensures (All-nil IsLeaf)))))))
