-- An audit has one outcome: a mesh has one box, and the faults and the verdicts exclude each other.
use Rattle.std.proofs.Common.{◌≡◌, List, [], ◌∷◌, length, sym, ap, ◌∙◌, subst, arith}
use Rattle.std.proofs.lemmas.Int.{ints}
use lib.IntN.{ℤ, pos, ◌+ℤ◌, ◌-ℤ◌}
use Rattle.bc_num.specs.declared.box3.Box3.{Box3}
use Rattle.bc_num.proofs.Same.{box3_same}
use Rattle.bc_solid.specs.Boxes.{IsLeast, IsGreatest}
use Rattle.bc_solid.specs.Facets.{Facet}
use Rattle.bc_solid.specs.Boxes3.{along_x, along_y, along_z, IsCoordinate, IsBoxOf3}
use Rattle.bc_tree.specs.Shape.{Shape, AllLeaves}
use Rattle.bc_audit.specs.Audits.{IsOfBox, HasOtherBox, OneOutcome, IsOneBox}
use Rattle.bc_audit.proofs.Verdicts.{frames}
use Rattle.bc_audit.proofs.OnePlane.{one_list}

one_least : (P : ℤ → Type 0) (x y : ℤ) → IsLeast P (x +ℤ pos 1) → IsLeast P (y +ℤ pos 1) → x ≡ y
one_least P x y h k =
    let a = h.least (y +ℤ pos 1) k.is in
    let b = k.least (x +ℤ pos 1) h.is in
    omega (arith, ints)

one_greatest : (P : ℤ → Type 0) (x y : ℤ) → IsGreatest P (x -ℤ pos 1) → IsGreatest P (y -ℤ pos 1) → x ≡ y
one_greatest P x y h k =
    let a = h.greatest (y -ℤ pos 1) k.is in
    let b = k.greatest (x -ℤ pos 1) h.is in
    omega (arith, ints)

pub one_box : IsOneBox
one_box [] b c h k =
    box3_same b c (h.x_least ∙ sym k.x_least) (h.y_least ∙ sym k.y_least) (h.z_least ∙ sym k.z_least) (h.x_greatest ∙ sym k.x_greatest) (h.y_greatest ∙ sym k.y_greatest) (h.z_greatest ∙ sym k.z_greatest)
one_box (f ∷ fs) b c h k =
    box3_same b c
    (one_least (IsCoordinate along_x (f ∷ fs)) b.x0 c.x0 h.x_least k.x_least) (one_least (IsCoordinate along_y (f ∷ fs)) b.y0 c.y0 h.y_least k.y_least) (one_least (IsCoordinate along_z (f ∷ fs)) b.z0 c.z0 h.z_least k.z_least)
    (one_greatest (IsCoordinate along_x (f ∷ fs)) b.x1 c.x1 h.x_greatest k.x_greatest) (one_greatest (IsCoordinate along_y (f ∷ fs)) b.y1 c.y1 h.y_greatest k.y_greatest) (one_greatest (IsCoordinate along_z (f ∷ fs)) b.z1 c.z1 h.z_greatest k.z_greatest)

apart : (fs : List Facet) (s : Shape) (b : Box3) → IsBoxOf3 fs b → AllLeaves (IsOfBox b) s → HasOtherBox fs s → ⊥
apart fs s b of boxes h = h.other (subst (λ (c : Box3). AllLeaves (IsOfBox c) s) (one_box fs b h.box of h.box_of) boxes)

pub one_outcome : OneOutcome
one_outcome fs s leaves = record {
  no_other_box = λ v a h. apart fs s a.box a.box_of a.boxes h;
  few = λ v n a h.
      let same = ap length (one_list fs s a.planes h.planes (frames s leaves) a.are_planes h.are_planes) in
      let x = a.few in let y = h.many in let z = h.count in
      absurd (omega arith);
  faults = λ n h k. apart fs s k.box k.box_of k.boxes h;
  one_number = λ m n h k. sym h.count ∙ ap length (one_list fs s h.planes k.planes (frames s leaves) h.are_planes k.are_planes) ∙ k.count;
}
