-- The laws of masks for each of two boundaries, over the table of both.
use Rattle.std.specs.Prelude.{◌≡◌, ◌≢◌, true, List, [], ◌∷◌, ◌++◌, All}
use Rattle.std.proofs.Common.{refl, sym, ap, ◌∙◌, subst, append_assoc}
use Rattle.std.proofs.lemmas.List.Elements.{All-nil, All-cons, All-head, All-tail, All-append, Contains-append_left, Contains-append_right}
use lib.IntN.{pos}
use Rattle.bc_num.specs.declared.p3.P3.{P3}
use Rattle.bc_space.specs.Planes.{plane_side, plane_value}
use Rattle.bc_solid.specs.declared.element.Element.{Element}
use Rattle.bc_solid.specs.Closed.{IsProper, IsProfile}
use Rattle.bc_solid.specs.HalfSpaces.{HalfSpace2, half_spaces, half_spaces_of, IsOn, is_above, is_line}
use Rattle.bc_solid.specs.Facets.{Facet}
use Rattle.bc_parity.specs.Laws.{FlipLaw, StraightCellLaw}
use Rattle.bc_parity.specs.FaceLaws.{CellLaw3}
use Rattle.bc_natural.specs.Curves.{Curves, AreCurves}
use Rattle.bc_natural.specs.Planes.{Planes, ArePlanes}
use Rattle.bc_natural.proofs.PlaneTables.{alike_by_mask}
use Rattle.bc_classify.specs.JointMasks.{JointMaskLaw, JointCellLaw}
use Rattle.bc_classify.proofs.Halves.{IsTable, off_lines, alike_by_lines}
use Rattle.bc_classify.proofs.Parities.{table_is, proper_of, one_mask}

-- ---- parts of a list

front : {X : Type 0} (P : X → Type 0) (xs ys : List X) → All P (xs ++ ys) → All P xs
front P [] ys h = All-nil P
front P (x ∷ xs) ys h = All-cons P x xs (All-head P x (xs ++ ys) h) (front P xs ys (All-tail P x (xs ++ ys) h))

back : {X : Type 0} (P : X → Type 0) (xs ys : List X) → All P (xs ++ ys) → All P ys
back P [] ys h = h
back P (x ∷ xs) ys h = back P xs ys (All-tail P x (xs ++ ys) h)

halves_joined : (es fs : List Element) → half_spaces (es ++ fs) ≡ half_spaces es ++ half_spaces fs
halves_joined [] fs = refl
halves_joined (e ∷ es) fs = ap (λ hs. half_spaces_of e ++ hs) (halves_joined es fs) ∙ sym (append_assoc (half_spaces_of e) (half_spaces es) (half_spaces fs))

-- ---- contours

pub joint_masks : (es fs : List Element) (t : Curves) → AreCurves (es ++ fs) t → IsProfile es → IsProfile fs → FlipLaw es → FlipLaw fs → StraightCellLaw es → StraightCellLaw fs → JointMaskLaw es fs t
joint_masks es fs t h a b flip_a flip_b straight_a straight_b p q off_p off_q same =
    let k : IsTable (es ++ fs) t = table_is (es ++ fs) t h in
    let proper = All-append IsProper es fs (proper_of es a) (proper_of fs b) in
    let On_p = λ (h : HalfSpace2). IsOn h p → ⊥ in
    let On_q = λ (h : HalfSpace2). is_line h ≡ true → IsOn h q → ⊥ in
    let Same = λ (h : HalfSpace2). is_line h ≡ true → is_above h p ≡ is_above h q in
    let off = subst (All On_p) (halves_joined es fs) off_p in
    let lines = subst (All On_q) (halves_joined es fs) (off_lines (es ++ fs) t k proper q off_q) in
    let alike = subst (All Same) (halves_joined es fs) (alike_by_lines (es ++ fs) t k proper p q (sym same)) in (
      one_mask es t (λ e m. k.disc_in e (Contains-append_left es fs e m)) flip_a straight_a p q
          (front On_p (half_spaces es) (half_spaces fs) off) (front On_q (half_spaces es) (half_spaces fs) lines) (front Same (half_spaces es) (half_spaces fs) alike),
      one_mask fs t (λ e m. k.disc_in e (Contains-append_right es fs e m)) flip_b straight_b p q
          (back On_p (half_spaces es) (half_spaces fs) off) (back On_q (half_spaces es) (half_spaces fs) lines) (back Same (half_spaces es) (half_spaces fs) alike),
    )

-- ---- meshes

pub joint_cells : (fs gs : List Facet) (t : Planes) → ArePlanes (fs ++ gs) t → CellLaw3 fs → CellLaw3 gs → JointCellLaw fs gs t
joint_cells fs gs t h law_a law_b p q off_p off_q e =
    let Off = λ (r : P3) (f : Facet). plane_value f.plane r ≢ pos 0 in
    let Same = λ (f : Facet). plane_side f.plane p ≡ plane_side f.plane q in
    let alike = alike_by_mask (fs ++ gs) t p q h off_p off_q e in (
      law_a p q (front (Off p) fs gs off_p) (front (Off q) fs gs off_q) (front Same fs gs alike),
      law_b p q (back (Off p) fs gs off_p) (back (Off q) fs gs off_q) (back Same fs gs alike),
    )
