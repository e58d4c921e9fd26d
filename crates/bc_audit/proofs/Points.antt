-- Points strictly inside a box, by its walls; points with the same place; and where slabs and blocks hold inside the box.
use Rattle.std.proofs.Common.{◌≡◌, ◌↔◌, ℕ, zero, suc, Bool, true, ◌&&◌, [], ◌∷◌, Some, refl, ap, subst, arith}
use Rattle.std.specs.Prelude.{slice_get}
use Rattle.std.specs.List.{All}
use Rattle.std.specs.Ordering.{int_eq}
use Rattle.std.proofs.lemmas.Int.{ints}
use Rattle.std.proofs.lemmas.Option.{slice_get_within, get_or_from_slice_get}
use Rattle.std.proofs.lemmas.Bool.{and_parts}
use Rattle.std.proofs.lemmas.Bool.Decides.{Decides-int_eq}
use Rattle.std.proofs.lemmas.List.Elements.{All-nil, All-cons}
use lib.IntN.{ℤ, pos, negsuc, ◌+ℤ◌, ◌-ℤ◌, ◌*ℤ◌, neg_ℤ}
use lib.Signed.{◌≤ℤ◌, ◌<ℤ◌}
use Rattle.bc_algebra.specs.Within.{IsWithin}
use Rattle.bc_algebra.proofs.Ring.{ring, quotes}
use Rattle.bc_algebra.proofs.Order.{mul_le}
use Rattle.bc_num.specs.declared.v3.V3.{V3}
use Rattle.bc_num.specs.declared.p3.P3.{P3}
use Rattle.bc_num.specs.declared.box3.Box3.{Box3}
use Rattle.bc_num.specs.Sizes.{AreCoords3}
use Rattle.bc_num.proofs.Same.{box3_same}
use Rattle.bc_space.specs.declared.side.Side.TheVariants.{Above}
use Rattle.bc_space.specs.declared.plane3.Plane3.{Plane3}
use Rattle.bc_space.specs.Sides.{side_of_value}
use Rattle.bc_space.specs.Planes.{plane_value, plane_side}
use Rattle.bc_space.specs.Solid.{left3, right3, front3, rear3, low3, high3, walls3}
use Rattle.bc_solid.specs.Boxes3.{IsInside3}
use Rattle.bc_natural.specs.Planes.{IsNearBox3}
use Rattle.bc_tree.specs.Leaves.{IsBetween, InBlock}
use Rattle.bc_tree.specs.Near.{IsNear3}
use Rattle.bc_audit.specs.Blocks.{is_same_box}

-- ---- the walls

above_by_gap : (x y v : ℤ) → x <ℤ y → v ≡ y -ℤ x → side_of_value v ≡ Above
above_by_gap x y (pos zero) h e = absurd (omega (arith, ints))
above_by_gap x y (pos (suc n)) h e = refl
above_by_gap x y (negsuc n) h e = absurd (omega (arith, ints))

gap_by_above : (x y v : ℤ) → side_of_value v ≡ Above → v ≡ y -ℤ x → x <ℤ y
gap_by_above x y (pos zero) h e = absurd (cc)
gap_by_above x y (pos (suc n)) h e = omega (arith, ints)
gap_by_above x y (negsuc n) h e = absurd (cc)

module _ (b : Box3) (p : P3) where
  abbrev At : Plane3 → Type 0
  At w = plane_side w p ≡ Above

  first : (d x y z w : ℤ) → pos 1 *ℤ x +ℤ pos 0 *ℤ y +ℤ pos 0 *ℤ z -ℤ d *ℤ w ≡ x -ℤ d *ℤ w
  first d x y z w = ring (d ∷ x ∷ y ∷ z ∷ w ∷ []) (search quotes depth 30) refl

  second : (d x y z w : ℤ) → negsuc 0 *ℤ x +ℤ pos 0 *ℤ y +ℤ pos 0 *ℤ z -ℤ neg_ℤ d *ℤ w ≡ d *ℤ w -ℤ x
  second d x y z w = ring (d ∷ x ∷ y ∷ z ∷ w ∷ []) (search quotes depth 30) refl

  third : (d x y z w : ℤ) → pos 0 *ℤ x +ℤ pos 1 *ℤ y +ℤ pos 0 *ℤ z -ℤ d *ℤ w ≡ y -ℤ d *ℤ w
  third d x y z w = ring (d ∷ x ∷ y ∷ z ∷ w ∷ []) (search quotes depth 30) refl

  fourth : (d x y z w : ℤ) → pos 0 *ℤ x +ℤ negsuc 0 *ℤ y +ℤ pos 0 *ℤ z -ℤ neg_ℤ d *ℤ w ≡ d *ℤ w -ℤ y
  fourth d x y z w = ring (d ∷ x ∷ y ∷ z ∷ w ∷ []) (search quotes depth 30) refl

  fifth : (d x y z w : ℤ) → pos 0 *ℤ x +ℤ pos 0 *ℤ y +ℤ pos 1 *ℤ z -ℤ d *ℤ w ≡ z -ℤ d *ℤ w
  fifth d x y z w = ring (d ∷ x ∷ y ∷ z ∷ w ∷ []) (search quotes depth 30) refl

  sixth : (d x y z w : ℤ) → pos 0 *ℤ x +ℤ pos 0 *ℤ y +ℤ negsuc 0 *ℤ z -ℤ neg_ℤ d *ℤ w ≡ d *ℤ w -ℤ z
  sixth d x y z w = ring (d ∷ x ∷ y ∷ z ∷ w ∷ []) (search quotes depth 30) refl

  pub walls_from_inside : IsInside3 b p → All At (walls3 b)
  walls_from_inside h =
      All-cons At (left3 b) (right3 b ∷ (front3 b ∷ (rear3 b ∷ (low3 b ∷ (high3 b ∷ []))))) (above_by_gap (b.x0 *ℤ p.w) p.x (plane_value (left3 b) p) h.x_above (first b.x0 p.x p.y p.z p.w))
      (All-cons At (right3 b) (front3 b ∷ (rear3 b ∷ (low3 b ∷ (high3 b ∷ [])))) (above_by_gap p.x (b.x1 *ℤ p.w) (plane_value (right3 b) p) h.x_below (second b.x1 p.x p.y p.z p.w))
      (All-cons At (front3 b) (rear3 b ∷ (low3 b ∷ (high3 b ∷ []))) (above_by_gap (b.y0 *ℤ p.w) p.y (plane_value (front3 b) p) h.y_above (third b.y0 p.x p.y p.z p.w))
      (All-cons At (rear3 b) (low3 b ∷ (high3 b ∷ [])) (above_by_gap p.y (b.y1 *ℤ p.w) (plane_value (rear3 b) p) h.y_below (fourth b.y1 p.x p.y p.z p.w))
      (All-cons At (low3 b) (high3 b ∷ []) (above_by_gap (b.z0 *ℤ p.w) p.z (plane_value (low3 b) p) h.z_above (fifth b.z0 p.x p.y p.z p.w))
      (All-cons At (high3 b) [] (above_by_gap p.z (b.z1 *ℤ p.w) (plane_value (high3 b) p) h.z_below (sixth b.z1 p.x p.y p.z p.w)) (All-nil At))))))

  wall : (i : ℕ) (w : Plane3) → slice_get (walls3 b) i ≡ Some w → All At (walls3 b) → At w
  wall i w e a = let l = slice_get_within (walls3 b) i w e in subst At (get_or_from_slice_get (walls3 b) i w w e) (a i w l)

  pub inside_from_walls : All At (walls3 b) → IsInside3 b p
  inside_from_walls a = record {
    x_above = gap_by_above (b.x0 *ℤ p.w) p.x (plane_value (left3 b) p) (wall 0 (left3 b) refl a) (first b.x0 p.x p.y p.z p.w);
    x_below = gap_by_above p.x (b.x1 *ℤ p.w) (plane_value (right3 b) p) (wall 1 (right3 b) refl a) (second b.x1 p.x p.y p.z p.w);
    y_above = gap_by_above (b.y0 *ℤ p.w) p.y (plane_value (front3 b) p) (wall 2 (front3 b) refl a) (third b.y0 p.x p.y p.z p.w);
    y_below = gap_by_above p.y (b.y1 *ℤ p.w) (plane_value (rear3 b) p) (wall 3 (rear3 b) refl a) (fourth b.y1 p.x p.y p.z p.w);
    z_above = gap_by_above (b.z0 *ℤ p.w) p.z (plane_value (low3 b) p) (wall 4 (low3 b) refl a) (fifth b.z0 p.x p.y p.z p.w);
    z_below = gap_by_above p.z (b.z1 *ℤ p.w) (plane_value (high3 b) p) (wall 5 (high3 b) refl a) (sixth b.z1 p.x p.y p.z p.w);
  }

-- ---- blocks

pub in_block : (b : Box3) (p : P3) → IsInside3 b p → InBlock b p
in_block b p h = record {
  along_x = record { least = omega (arith, ints, h.x_above); most = omega (arith, ints, h.x_below) };
  along_y = record { least = omega (arith, ints, h.y_above); most = omega (arith, ints, h.y_below) };
  along_z = record { least = omega (arith, ints, h.z_above); most = omega (arith, ints, h.z_below) };
}

box_parts : (b c : Box3) → is_same_box b c ≡ true → b ≡ c
box_parts b c e =
    let p = and_parts (int_eq b.x0 c.x0) (int_eq b.y0 c.y0 && (int_eq b.z0 c.z0 && (int_eq b.x1 c.x1 && (int_eq b.y1 c.y1 && int_eq b.z1 c.z1)))) e in
    let q = and_parts (int_eq b.y0 c.y0) (int_eq b.z0 c.z0 && (int_eq b.x1 c.x1 && (int_eq b.y1 c.y1 && int_eq b.z1 c.z1))) p.1 in
    let r = and_parts (int_eq b.z0 c.z0) (int_eq b.x1 c.x1 && (int_eq b.y1 c.y1 && int_eq b.z1 c.z1)) q.1 in
    let s = and_parts (int_eq b.x1 c.x1) (int_eq b.y1 c.y1 && int_eq b.z1 c.z1) r.1 in
    let t = and_parts (int_eq b.y1 c.y1) (int_eq b.z1 c.z1) s.1 in
    box3_same b c ((Decides-int_eq b.x0 c.x0).0 p.0) ((Decides-int_eq b.y0 c.y0).0 q.0) ((Decides-int_eq b.z0 c.z0).0 r.0)
    ((Decides-int_eq b.x1 c.x1).0 s.0) ((Decides-int_eq b.y1 c.y1).0 t.0) ((Decides-int_eq b.z1 c.z1).0 t.1)

all_six : (x y z u v w : Bool) → x ≡ true → y ≡ true → z ≡ true → u ≡ true → v ≡ true → w ≡ true → (x && (y && (z && (u && (v && w))))) ≡ true
all_six x y z u v w p q r s t o = rw (p, q, r, s, t, o) refl

pub same_box : (b c : Box3) → (is_same_box b c ≡ true) ↔ (b ≡ c)
same_box b c = (
  box_parts b c,
  λ e. all_six (int_eq b.x0 c.x0) (int_eq b.y0 c.y0) (int_eq b.z0 c.z0) (int_eq b.x1 c.x1) (int_eq b.y1 c.y1) (int_eq b.z1 c.z1)
      ((Decides-int_eq b.x0 c.x0).1 (ap (λ (t : Box3). t.x0) e)) ((Decides-int_eq b.y0 c.y0).1 (ap (λ (t : Box3). t.y0) e)) ((Decides-int_eq b.z0 c.z0).1 (ap (λ (t : Box3). t.z0) e))
      ((Decides-int_eq b.x1 c.x1).1 (ap (λ (t : Box3). t.x1) e)) ((Decides-int_eq b.y1 c.y1).1 (ap (λ (t : Box3). t.y1) e)) ((Decides-int_eq b.z1 c.z1).1 (ap (λ (t : Box3). t.z1) e)),
)

-- ---- near the origin of a slab

near_axis : (x0 x1 o x w : ℤ) → pos 0 <ℤ w → (x0 *ℤ w) <ℤ x → x <ℤ (x1 *ℤ w) → IsWithin 1024 x0 → IsWithin 1024 x1 → IsWithin 1023 o → IsBetween (neg_ℤ (pos 2047 *ℤ w)) (x -ℤ o *ℤ w) (pos 2047 *ℤ w)
near_axis x0 x1 o x w h l r h0 h1 ho =
    let weak : pos 0 ≤ℤ w = omega (arith, ints) in
    let a : (negsuc 1023 *ℤ w) ≤ℤ (x0 *ℤ w) = mul_le (negsuc 1023) x0 w weak (omega (arith, ints, h0.within)) in
    let b : (x1 *ℤ w) ≤ℤ (pos 1024 *ℤ w) = mul_le x1 (pos 1024) w weak (omega (arith, ints, h1.within)) in
    let c : (negsuc 1022 *ℤ w) ≤ℤ (o *ℤ w) = mul_le (negsuc 1022) o w weak (omega (arith, ints, ho.within)) in
    let d : (o *ℤ w) ≤ℤ (pos 1023 *ℤ w) = mul_le o (pos 1023) w weak (omega (arith, ints, ho.within)) in
    record { least = omega (arith, ints); most = omega (arith, ints) }

pub near_point : (b : Box3) (o : V3) (p : P3) → IsNearBox3 b → AreCoords3 o → IsInside3 b p → IsNear3 (pos 2047) o p
near_point b o p h near k = record {
  x = near_axis b.x0 b.x1 o.x p.x p.w p.positive k.x_above k.x_below h.x0_near h.x1_near near.x_near;
  y = near_axis b.y0 b.y1 o.y p.y p.w p.positive k.y_above k.y_below h.y0_near h.y1_near near.y_near;
  z = near_axis b.z0 b.z1 o.z p.z p.w p.positive k.z_above k.z_below h.z0_near h.z1_near near.z_near;
}
