-- The common point of three planes: it is there where the determinant is not 0, and it is on all three.
-- A proof, which an `impl` rests on: so it stands in specs/.
use Rattle.std.specs.Prelude.{◌≡◌, ◌≢◌, zero, suc, ℤ, pos, negsuc, ◌+ℤ◌, ◌-ℤ◌, ◌*ℤ◌, neg_ℤ, List, [], ◌∷◌, Some, refl}
use Rattle.std.specs.List.{All}
use Rattle.std.proofs.Common.{ap, ◌∙◌, subst}
use Rattle.std.proofs.lemmas.List.Elements.{All-cons, All-nil}
use Rattle.std.proofs.Math.IntN.{*ℤ_comm}
use Rattle.bc_algebra.proofs.Ring.{ring, quotes}
use Rattle.bc_algebra.proofs.Order.{pos-pos}
use Rattle.bc_hull.proofs.Values.{other_zero}
use Rattle.bc_num.specs.declared.p3.P3.{P3}
use Rattle.bc_num.specs.Points.{IsReduced3}
use Rattle.bc_num.proofs.Reducing.{lowest3}
use Rattle.bc_num.proofs.Lowest.{IsReduced3_of-over}
use Rattle.bc_space.specs.declared.side.Side.TheVariants.{On}
use Rattle.bc_space.specs.declared.plane3.Plane3.{Plane3}
use Rattle.bc_space.specs.Sides.{side_of_value}
use Rattle.bc_space.specs.Planes.{plane_value, plane_side}
use Rattle.bc_space.specs.Laws.{MeetLaw}
use Rattle.bc_space.specs.Laws.FlatMeets.{turned_by, factor_some}
use Rattle.bc_space.specs.Solid.{determinant_of_rows, cramer3_x, cramer3_y, cramer3_z, determinant3, point_over3, met3}

-- c is x over w, y over w, z over w in lowest terms: its numbers are those over a factor, which may be negative
pub record IsPointOf3 (x y z w : ℤ) (c : P3) : Type 0 where
  pub factor : ℤ
  pub x_is : factor *ℤ c.x ≡ x
  pub y_is : factor *ℤ c.y ≡ y
  pub z_is : factor *ℤ c.z ≡ z
  pub w_is : factor *ℤ c.w ≡ w
  pub reduced : IsReduced3 c

at_right : (x y z : ℤ) (n : _) → IsPointOf3 x y z (pos (suc n)) ((lowest3 (record { x = x; y = y; z = z; w = pos (suc n); positive = pos-pos n })).point)
at_right x y z n =
    let p : P3 = record { x = x; y = y; z = z; w = pos (suc n); positive = pos-pos n } in
    let l = lowest3 p in
    record {
      factor = l.divisor;
      x_is = *ℤ_comm l.divisor l.point.x ∙ l.over.along_x;
      y_is = *ℤ_comm l.divisor l.point.y ∙ l.over.along_y;
      z_is = *ℤ_comm l.divisor l.point.z ∙ l.over.along_z;
      w_is = *ℤ_comm l.divisor l.point.w ∙ l.over.along_w;
      reduced = IsReduced3_of-over p l.point l.divisor l.over;
    }

at_left : (x y z : ℤ) (n : _) → IsPointOf3 x y z (negsuc n) ((lowest3 (record { x = neg_ℤ x; y = neg_ℤ y; z = neg_ℤ z; w = pos (suc n); positive = pos-pos n })).point)
at_left x y z n =
    let p : P3 = record { x = neg_ℤ x; y = neg_ℤ y; z = neg_ℤ z; w = pos (suc n); positive = pos-pos n } in
    let l = lowest3 p in
    record {
      factor = neg_ℤ l.divisor;
      x_is = turned_by l.divisor l.point.x x l.over.along_x;
      y_is = turned_by l.divisor l.point.y y l.over.along_y;
      z_is = turned_by l.divisor l.point.z z l.over.along_z;
      w_is = turned_by l.divisor l.point.w (negsuc n) l.over.along_w;
      reduced = IsReduced3_of-over p l.point l.divisor l.over;
    }

pub some_same3 : (a b : P3) → Some a ≡ Some b → a ≡ b
some_same3 a b e = cc

-- whatever is answered is that point
pub over_is3 : (x y z w : ℤ) (c : P3) → point_over3 x y z w ≡ Some c → IsPointOf3 x y z w c
over_is3 x y z (pos zero) c e = cc
over_is3 x y z (pos (suc n)) c e = subst (IsPointOf3 x y z (pos (suc n))) (some_same3 _ c e) (at_right x y z n)
over_is3 x y z (negsuc n) c e = subst (IsPointOf3 x y z (negsuc n)) (some_same3 _ c e) (at_left x y z n)

-- the common point that three planes have
pub record Meeting3 (g h k : Plane3) : Type 0 where
  pub at : P3
  pub meet : met3 (g ∷ (h ∷ (k ∷ []))) ≡ Some at
  pub of : IsPointOf3 (cramer3_x g h k) (cramer3_y g h k) (cramer3_z g h k) (determinant3 g h k) at

pub record Over3 (x y z w : ℤ) : Type 0 where
  pub at : P3
  pub is : point_over3 x y z w ≡ Some at

over_some : (x y z w : ℤ) → w ≢ pos 0 → Over3 x y z w
over_some x y z (pos zero) n = absurd (n refl)
over_some x y z (pos (suc k)) n = record { at = _; is = refl }
over_some x y z (negsuc k) n = record { at = _; is = refl }

pub meets3 : (g h k : Plane3) → determinant3 g h k ≢ pos 0 → Meeting3 g h k
meets3 g h k n =
    let o = over_some (cramer3_x g h k) (cramer3_y g h k) (cramer3_z g h k) (determinant3 g h k) n in
    record { at = o.at; meet = o.is; of = over_is3 (cramer3_x g h k) (cramer3_y g h k) (cramer3_z g h k) (determinant3 g h k) o.at o.is }

pub over_none : (x y z w : ℤ) (c : P3) → point_over3 x y z w ≡ Some c → w ≢ pos 0
over_none x y z (pos zero) c e = cc
over_none x y z (pos (suc n)) c e = λ r. cc
over_none x y z (negsuc n) c e = λ r. cc

-- a factor of all four numbers goes out of a value
pub out_of-value : (a b c d k x y z w : ℤ) → k *ℤ (a *ℤ x +ℤ b *ℤ y +ℤ c *ℤ z -ℤ d *ℤ w) ≡ a *ℤ (k *ℤ x) +ℤ b *ℤ (k *ℤ y) +ℤ c *ℤ (k *ℤ z) -ℤ d *ℤ (k *ℤ w)
out_of-value a b c d k x y z w = ring (a ∷ b ∷ c ∷ d ∷ k ∷ x ∷ y ∷ z ∷ w ∷ []) (search quotes depth 30) refl

-- the point of Cramer's rule is on the plane of each row
module _ (a b c d a' b' c' d' a'' b'' c'' d'' : ℤ) where
  first_zero : a *ℤ determinant_of_rows d b c d' b' c' d'' b'' c'' +ℤ b *ℤ determinant_of_rows a d c a' d' c' a'' d'' c'' +ℤ c *ℤ determinant_of_rows a b d a' b' d' a'' b'' d'' -ℤ d *ℤ determinant_of_rows a b c a' b' c' a'' b'' c'' ≡ pos 0
  first_zero = ring (a ∷ b ∷ c ∷ d ∷ a' ∷ b' ∷ c' ∷ d' ∷ a'' ∷ b'' ∷ c'' ∷ d'' ∷ []) (search quotes depth 30) refl

  second_zero : a' *ℤ determinant_of_rows d b c d' b' c' d'' b'' c'' +ℤ b' *ℤ determinant_of_rows a d c a' d' c' a'' d'' c'' +ℤ c' *ℤ determinant_of_rows a b d a' b' d' a'' b'' d'' -ℤ d' *ℤ determinant_of_rows a b c a' b' c' a'' b'' c'' ≡ pos 0
  second_zero = ring (a ∷ b ∷ c ∷ d ∷ a' ∷ b' ∷ c' ∷ d' ∷ a'' ∷ b'' ∷ c'' ∷ d'' ∷ []) (search quotes depth 30) refl

  third_zero : a'' *ℤ determinant_of_rows d b c d' b' c' d'' b'' c'' +ℤ b'' *ℤ determinant_of_rows a d c a' d' c' a'' d'' c'' +ℤ c'' *ℤ determinant_of_rows a b d a' b' d' a'' b'' d'' -ℤ d'' *ℤ determinant_of_rows a b c a' b' c' a'' b'' c'' ≡ pos 0
  third_zero = ring (a ∷ b ∷ c ∷ d ∷ a' ∷ b' ∷ c' ∷ d' ∷ a'' ∷ b'' ∷ c'' ∷ d'' ∷ []) (search quotes depth 30) refl

-- where the numbers times k are others that give the value 0, the value is 0
zero_of-others : (l : Plane3) (q : P3) (k x y z w : ℤ) → k ≢ pos 0 → k *ℤ q.x ≡ x → k *ℤ q.y ≡ y → k *ℤ q.z ≡ z → k *ℤ q.w ≡ w → l.a *ℤ x +ℤ l.b *ℤ y +ℤ l.c *ℤ z -ℤ l.d *ℤ w ≡ pos 0 → plane_value l q ≡ pos 0
zero_of-others l q k x y z w some ex ey ez ew e =
    other_zero k (plane_value l q) some (out_of-value l.a l.b l.c l.d k q.x q.y q.z q.w ∙ others)
  where
    others : l.a *ℤ (k *ℤ q.x) +ℤ l.b *ℤ (k *ℤ q.y) +ℤ l.c *ℤ (k *ℤ q.z) -ℤ l.d *ℤ (k *ℤ q.w) ≡ pos 0
    others = rw (ex, ey, ez, ew) e

met_on : (hs : List Plane3) (c : P3) → met3 hs ≡ Some c → All (λ h. plane_side h c ≡ On) hs
met_on [] c e = All-nil (λ h. plane_side h c ≡ On)
met_on (g ∷ []) c e = cc
met_on (g ∷ (h ∷ [])) c e = cc
met_on (g ∷ (h ∷ (k ∷ []))) c e =
    let o = over_is3 (cramer3_x g h k) (cramer3_y g h k) (cramer3_z g h k) (determinant3 g h k) c e in
    let some : o.factor ≢ pos 0 = factor_some o.factor c.w (determinant3 g h k) o.w_is (over_none (cramer3_x g h k) (cramer3_y g h k) (cramer3_z g h k) (determinant3 g h k) c e) in
    let first : plane_value g c ≡ pos 0 = zero_of-others g c o.factor (cramer3_x g h k) (cramer3_y g h k) (cramer3_z g h k) (determinant3 g h k) some o.x_is o.y_is o.z_is o.w_is (first_zero g.a g.b g.c g.d h.a h.b h.c h.d k.a k.b k.c k.d) in
    let second : plane_value h c ≡ pos 0 = zero_of-others h c o.factor (cramer3_x g h k) (cramer3_y g h k) (cramer3_z g h k) (determinant3 g h k) some o.x_is o.y_is o.z_is o.w_is (second_zero g.a g.b g.c g.d h.a h.b h.c h.d k.a k.b k.c k.d) in
    let third : plane_value k c ≡ pos 0 = zero_of-others k c o.factor (cramer3_x g h k) (cramer3_y g h k) (cramer3_z g h k) (determinant3 g h k) some o.x_is o.y_is o.z_is o.w_is (third_zero g.a g.b g.c g.d h.a h.b h.c h.d k.a k.b k.c k.d) in
    All-cons (λ l. plane_side l c ≡ On) g (h ∷ (k ∷ [])) (ap side_of_value first)
    (All-cons (λ l. plane_side l c ≡ On) h (k ∷ []) (ap side_of_value second)
    (All-cons (λ l. plane_side l c ≡ On) k [] (ap side_of_value third) (All-nil (λ l. plane_side l c ≡ On))))
met_on (g ∷ (h ∷ (k ∷ (l ∷ ls)))) c e = cc

met_reduced : (hs : List Plane3) (c : P3) → met3 hs ≡ Some c → IsReduced3 c
met_reduced [] c e = cc
met_reduced (g ∷ []) c e = cc
met_reduced (g ∷ (h ∷ [])) c e = cc
met_reduced (g ∷ (h ∷ (k ∷ []))) c e = (over_is3 (cramer3_x g h k) (cramer3_y g h k) (cramer3_z g h k) (determinant3 g h k) c e).reduced
met_reduced (g ∷ (h ∷ (k ∷ (l ∷ ls)))) c e = cc

pub solid_meet : MeetLaw plane_side IsReduced3 met3
solid_meet = record { on = met_on; reduced = met_reduced }
