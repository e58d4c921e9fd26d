-- The common point of two lines: it is there where the determinant is not 0, and it is on both.
-- A proof, which an `impl` rests on: so it stands in specs/.
use Rattle.std.specs.Prelude.{◌≡◌, ◌≢◌, zero, suc, ℤ, pos, negsuc, ◌+ℤ◌, ◌-ℤ◌, ◌*ℤ◌, neg_ℤ, List, [], ◌∷◌, Some, refl}
use Rattle.std.specs.List.{All}
use Rattle.std.proofs.Common.{sym, ap, ◌∙◌, subst, arith}
use Rattle.std.proofs.lemmas.Int.{ints}
use Rattle.std.proofs.lemmas.List.Elements.{All-cons, All-nil}
use Rattle.std.proofs.Math.IntN.{*ℤ_comm}
use Rattle.bc_algebra.proofs.Ring.{ring, quotes, by_one, by_three}
use Rattle.bc_algebra.proofs.Order.{pos-pos}
use Rattle.bc_hull.proofs.Values.{other_zero}
use Rattle.bc_num.specs.declared.p2.P2.{P2}
use Rattle.bc_num.specs.Points.{IsReduced2}
use Rattle.bc_num.proofs.Reducing.{lowest2}
use Rattle.bc_num.proofs.Lowest.{IsReduced2_of-over}
use Rattle.bc_space.specs.declared.side.Side.TheVariants.{On}
use Rattle.bc_space.specs.declared.line2.Line2.{Line2}
use Rattle.bc_space.specs.Sides.{side_of_value}
use Rattle.bc_space.specs.Lines.{line_value, line_side}
use Rattle.bc_space.specs.Laws.{MeetLaw}
use Rattle.bc_space.specs.Flat.{cramer_x, cramer_y, determinant2, point_over2, met2}

-- c is x over w, y over w in lowest terms: its numbers are those over a factor, which may be negative
pub record IsPointOf (x y w : ℤ) (c : P2) : Type 0 where
  pub factor : ℤ
  pub x_is : factor *ℤ c.x ≡ x
  pub y_is : factor *ℤ c.y ≡ y
  pub w_is : factor *ℤ c.w ≡ w
  pub reduced : IsReduced2 c

pub turned_by : (g c x : ℤ) → c *ℤ g ≡ neg_ℤ x → neg_ℤ g *ℤ c ≡ x
turned_by g c x e = by_one (neg_ℤ (pos 1)) e (ring (g ∷ c ∷ x ∷ []) (search quotes depth 30) refl)

at_right : (x y : ℤ) (n : _) → IsPointOf x y (pos (suc n)) ((lowest2 (record { x = x; y = y; w = pos (suc n); positive = pos-pos n })).point)
at_right x y n =
    let p : P2 = record { x = x; y = y; w = pos (suc n); positive = pos-pos n } in
    let l = lowest2 p in
    record {
      factor = l.divisor;
      x_is = *ℤ_comm l.divisor l.point.x ∙ l.over.along_x;
      y_is = *ℤ_comm l.divisor l.point.y ∙ l.over.along_y;
      w_is = *ℤ_comm l.divisor l.point.w ∙ l.over.along_w;
      reduced = IsReduced2_of-over p l.point l.divisor l.over;
    }

at_left : (x y : ℤ) (n : _) → IsPointOf x y (negsuc n) ((lowest2 (record { x = neg_ℤ x; y = neg_ℤ y; w = pos (suc n); positive = pos-pos n })).point)
at_left x y n =
    let p : P2 = record { x = neg_ℤ x; y = neg_ℤ y; w = pos (suc n); positive = pos-pos n } in
    let l = lowest2 p in
    record {
      factor = neg_ℤ l.divisor;
      x_is = turned_by l.divisor l.point.x x l.over.along_x;
      y_is = turned_by l.divisor l.point.y y l.over.along_y;
      w_is = turned_by l.divisor l.point.w (negsuc n) l.over.along_w;
      reduced = IsReduced2_of-over p l.point l.divisor l.over;
    }

-- whatever is answered is that point
pub over_is : (x y w : ℤ) (c : P2) → point_over2 x y w ≡ Some c → IsPointOf x y w c
over_is x y (pos zero) c e = cc
over_is x y (pos (suc n)) c e = subst (IsPointOf x y (pos (suc n))) (some_same _ c e) (at_right x y n)
  where
    some_same : (a b : P2) → Some a ≡ Some b → a ≡ b
    some_same a b f = cc
over_is x y (negsuc n) c e = subst (IsPointOf x y (negsuc n)) (some_same _ c e) (at_left x y n)
  where
    some_same : (a b : P2) → Some a ≡ Some b → a ≡ b
    some_same a b f = cc

-- the common point that two lines have
pub record Meeting2 (g h : Line2) : Type 0 where
  pub at : P2
  pub meet : met2 (g ∷ (h ∷ [])) ≡ Some at
  pub of : IsPointOf (cramer_x g h) (cramer_y g h) (determinant2 g h) at

pub record Over2 (x y w : ℤ) : Type 0 where
  pub at : P2
  pub is : point_over2 x y w ≡ Some at

over_some : (x y w : ℤ) → w ≢ pos 0 → Over2 x y w
over_some x y (pos zero) n = absurd (n refl)
over_some x y (pos (suc k)) n = record { at = _; is = refl }
over_some x y (negsuc k) n = record { at = _; is = refl }

pub meets2 : (g h : Line2) → determinant2 g h ≢ pos 0 → Meeting2 g h
meets2 g h n =
    let o = over_some (cramer_x g h) (cramer_y g h) (determinant2 g h) n in
    record { at = o.at; meet = o.is; of = over_is (cramer_x g h) (cramer_y g h) (determinant2 g h) o.at o.is }

-- where the denominator is not 0, the factor is not
pub factor_some : (k cw n : ℤ) → k *ℤ cw ≡ n → n ≢ pos 0 → k ≢ pos 0
factor_some k cw n e off z = off (sym e ∙ ap (λ (l : ℤ). l *ℤ cw) z ∙ zero_left cw)
  where
    zero_left : (v : ℤ) → pos 0 *ℤ v ≡ pos 0
    zero_left v = omega (arith, ints)

pub over_none : (x y w : ℤ) (c : P2) → point_over2 x y w ≡ Some c → w ≢ pos 0
over_none x y (pos zero) c e = cc
over_none x y (pos (suc n)) c e = λ z. cc
over_none x y (negsuc n) c e = λ z. cc

-- on the first line, and on the second
on_first : (a b d a' b' d' k x y w : ℤ) → k *ℤ x ≡ d *ℤ b' -ℤ b *ℤ d' → k *ℤ y ≡ a *ℤ d' -ℤ d *ℤ a' → k *ℤ w ≡ a *ℤ b' -ℤ b *ℤ a' → k *ℤ (a *ℤ x +ℤ b *ℤ y -ℤ d *ℤ w) ≡ pos 0
on_first a b d a' b' d' k x y w ex ey ew =
    by_three a b (neg_ℤ d) ex ey ew (ring (a ∷ b ∷ d ∷ a' ∷ b' ∷ d' ∷ k ∷ x ∷ y ∷ w ∷ []) (search quotes depth 30) refl)

on_second : (a b d a' b' d' k x y w : ℤ) → k *ℤ x ≡ d *ℤ b' -ℤ b *ℤ d' → k *ℤ y ≡ a *ℤ d' -ℤ d *ℤ a' → k *ℤ w ≡ a *ℤ b' -ℤ b *ℤ a' → k *ℤ (a' *ℤ x +ℤ b' *ℤ y -ℤ d' *ℤ w) ≡ pos 0
on_second a b d a' b' d' k x y w ex ey ew =
    by_three a' b' (neg_ℤ d') ex ey ew (ring (a ∷ b ∷ d ∷ a' ∷ b' ∷ d' ∷ k ∷ x ∷ y ∷ w ∷ []) (search quotes depth 30) refl)

met_on : (hs : List Line2) (c : P2) → met2 hs ≡ Some c → All (λ h. line_side h c ≡ On) hs
met_on [] c e = All-nil (λ h. line_side h c ≡ On)
met_on (g ∷ []) c e = cc
met_on (g ∷ (h ∷ [])) c e =
    let o = over_is (cramer_x g h) (cramer_y g h) (determinant2 g h) c e in
    let some : o.factor ≢ pos 0 = factor_some o.factor c.w (determinant2 g h) o.w_is (over_none (cramer_x g h) (cramer_y g h) (determinant2 g h) c e) in
    let first : line_value g c ≡ pos 0 = other_zero o.factor (line_value g c) some (on_first g.a g.b g.d h.a h.b h.d o.factor c.x c.y c.w o.x_is o.y_is o.w_is) in
    let second : line_value h c ≡ pos 0 = other_zero o.factor (line_value h c) some (on_second g.a g.b g.d h.a h.b h.d o.factor c.x c.y c.w o.x_is o.y_is o.w_is) in
    All-cons (λ k. line_side k c ≡ On) g (h ∷ []) (ap side_of_value first) (All-cons (λ k. line_side k c ≡ On) h [] (ap side_of_value second) (All-nil (λ k. line_side k c ≡ On)))
met_on (g ∷ (h ∷ (k ∷ ks))) c e = cc

met_reduced : (hs : List Line2) (c : P2) → met2 hs ≡ Some c → IsReduced2 c
met_reduced [] c e = cc
met_reduced (g ∷ []) c e = cc
met_reduced (g ∷ (h ∷ [])) c e = (over_is (cramer_x g h) (cramer_y g h) (determinant2 g h) c e).reduced
met_reduced (g ∷ (h ∷ (k ∷ ks))) c e = cc

pub flat_meet : MeetLaw line_side IsReduced2 met2
flat_meet = record { on = met_on; reduced = met_reduced }
