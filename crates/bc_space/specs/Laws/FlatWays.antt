-- The ways of the plane, and so its hull law.
-- A proof, which an `impl` rests on: so it stands in specs/.
use Rattle.std.proofs.Common.{◌≡◌, ◌≢◌, ℕ, zero, suc, ◌<◌, List, [], ◌∷◌, length, inl, inr, refl, sym, ap, ◌∙◌, subst, arith}
use Rattle.std.proofs.lemmas.Int.{ints}
use lib.IntN.{ℤ, pos, negsuc, ◌+ℤ◌, ◌-ℤ◌, ◌*ℤ◌, neg_ℤ}
use lib.Signed.{◌<ℤ◌}
use Rattle.bc_algebra.proofs.Ring.{ring, quotes, by_two}
use Rattle.bc_algebra.proofs.Order.{pos-pos, pos-mul, pos-square, nonneg-square}
use Rattle.bc_hull.specs.Choices.{IsIn, IsInsertion}
use Rattle.bc_space.specs.Laws.{HullLaw}
use Rattle.bc_hull.specs.Ways.{Direction, Meeting, Bound, AreWays}
use Rattle.bc_hull.proofs.Values.{other_zero}
use Rattle.bc_space.specs.Laws.HullOfWays.{hull_law}
use Rattle.bc_num.specs.declared.p2.P2.{P2}
use Rattle.bc_space.specs.declared.line2.Line2.{Line2}
use Rattle.bc_num.specs.declared.box2.Box2.{Box2}
use Rattle.bc_space.specs.Lines.{line_value, line_side}
use Rattle.bc_space.specs.Flat.{left, right, low, high, walls2, met2, cramer_x, cramer_y, determinant2}
use Rattle.bc_space.specs.Laws.FlatMeets.{factor_some, meets2}

pub record Way2 : Type 0 where
  pub x : ℤ
  pub y : ℤ

abbrev pub slope2 : Line2 → Way2 → ℤ
slope2 h u = h.a *ℤ u.x +ℤ h.b *ℤ u.y

pub grown : (n : ℕ) (w : ℤ) → pos 0 <ℤ w → pos 0 <ℤ (pos (suc n) *ℤ w)
grown n w h = pos-mul (pos (suc n)) w (pos-pos n) h

abbrev pub move2 : P2 → ℕ → ℕ → Way2 → P2
move2 p a b u = record { x = pos (suc b) *ℤ p.x +ℤ pos a *ℤ u.x; y = pos (suc b) *ℤ p.y +ℤ pos a *ℤ u.y; w = pos (suc b) *ℤ p.w; positive = grown b p.w p.positive }

abbrev pub back2 : Way2 → Way2
back2 u = record { x = neg_ℤ u.x; y = neg_ℤ u.y }

abbrev pub IsSome2 : Way2 → Type 0
IsSome2 u = u.x ≡ pos 0 → u.y ≡ pos 0 → ⊥

abbrev pub Independent2 : List Line2 → Type 0
Independent2 [] = Unit {0}
Independent2 (g ∷ []) = g.a ≡ pos 0 → g.b ≡ pos 0 → ⊥
Independent2 (g ∷ (h ∷ [])) = determinant2 g h ≢ pos 0
Independent2 (g ∷ (h ∷ (k ∷ ks))) = ⊥

moved : (a b d x y w s t ux uy : ℤ) → (a *ℤ (s *ℤ x +ℤ t *ℤ ux) +ℤ b *ℤ (s *ℤ y +ℤ t *ℤ uy)) -ℤ d *ℤ (s *ℤ w) ≡ s *ℤ ((a *ℤ x +ℤ b *ℤ y) -ℤ d *ℤ w) +ℤ t *ℤ (a *ℤ ux +ℤ b *ℤ uy)
moved a b d x y w s t ux uy = ring (a ∷ b ∷ d ∷ x ∷ y ∷ w ∷ s ∷ t ∷ ux ∷ uy ∷ []) (search quotes depth 30) refl

turned : (a b x y : ℤ) → a *ℤ neg_ℤ x +ℤ b *ℤ neg_ℤ y ≡ neg_ℤ (a *ℤ x +ℤ b *ℤ y)
turned a b x y = ring (a ∷ b ∷ x ∷ y ∷ []) (search quotes depth 30) refl

pub neg_some : (z : ℤ) → neg_ℤ z ≡ pos 0 → z ≡ pos 0
neg_some z e = omega (arith, ints)

-- ---- directions
first_slope : (a b : ℤ) → a ≡ pos 0 → a *ℤ pos 1 +ℤ b *ℤ pos 0 ≡ pos 0
first_slope a b e = omega (arith, ints)

along_level : (a b : ℤ) → a *ℤ neg_ℤ b +ℤ b *ℤ a ≡ pos 0
along_level a b = ring (a ∷ b ∷ []) (search quotes depth 30) refl

across : (a b c d : ℤ) → a *ℤ neg_ℤ d +ℤ b *ℤ c ≡ neg_ℤ (a *ℤ d -ℤ b *ℤ c)
across a b c d = ring (a ∷ b ∷ c ∷ d ∷ []) (search quotes depth 30) refl

across_back : (a b c d : ℤ) → a *ℤ neg_ℤ d +ℤ b *ℤ c ≡ c *ℤ b -ℤ d *ℤ a
across_back a b c d = ring (a ∷ b ∷ c ∷ d ∷ []) (search quotes depth 30) refl

pub neg-zero : (z : ℤ) → z ≡ pos 0 → neg_ℤ z ≡ pos 0
neg-zero z e = omega (arith, ints)

abbrev beside : Line2 → Way2
beside h = record { x = neg_ℤ h.b; y = h.a }

second : (h g : Line2) (ks : List Line2) → slope2 g (beside h) ≢ pos 0 → IsInsertion g (h ∷ []) ks → Independent2 ks
second h g ks n (inl e) = subst Independent2 (sym e) (λ d. n (across g.a g.b h.a h.b ∙ neg-zero (determinant2 g h) d))
second h g ks n (inr r) =
    subst Independent2 (sym (r.1 ∙ ap (λ (l : List Line2). h ∷ l) r.2)) (λ d. n (across_back g.a g.b h.a h.b ∙ d))

direction2 : (hs : List Line2) → Independent2 hs → length hs < 2 → Direction slope2 IsSome2 Independent2 hs
direction2 [] free less = record {
  along = record { x = pos 1; y = pos 0 };
  is_some = λ e f. cc;
  level = λ h i. absurd i;
  extends = λ g ks n i. subst Independent2 (sym i) (λ e f. n (first_slope g.a g.b e));
}
direction2 (h ∷ []) free less = record {
  along = beside h;
  is_some = λ e f. free f (neg_some h.b e);
  level = λ k. elim [ inl e ↦ subst (λ l. slope2 l (beside h) ≡ pos 0) e (along_level h.a h.b) | inr i ↦ absurd i ];
  extends = λ g ks n i. second h g ks n i;
}
direction2 (g ∷ (h ∷ hs)) free less = absurd (omega (arith, less))

-- ---- walls
bound2 : (b : Box2) (x y : ℤ) → (x ≡ pos 0 → y ≡ pos 0 → ⊥) → Bound slope2 (walls2 b) (record { x = x; y = y })
bound2 b (negsuc n) y some = record { at = left b; from = inl refl; falls = omega (arith, ints) }
bound2 b (pos (suc n)) y some = record { at = right b; from = inr (inl refl); falls = omega (arith, ints) }
bound2 b (pos zero) (negsuc n) some = record { at = low b; from = inr (inr (inl refl)); falls = omega (arith, ints) }
bound2 b (pos zero) (pos (suc n)) some = record { at = high b; from = inr (inr (inr (inl refl))); falls = omega (arith, ints) }
bound2 b (pos zero) (pos zero) some = absurd (some refl refl)

-- ---- the common point
forced_x : (a b d a' b' d' x y w : ℤ) → (a *ℤ x +ℤ b *ℤ y) -ℤ d *ℤ w ≡ pos 0 → (a' *ℤ x +ℤ b' *ℤ y) -ℤ d' *ℤ w ≡ pos 0 → ((a *ℤ b') -ℤ (b *ℤ a')) *ℤ x ≡ ((d *ℤ b') -ℤ (b *ℤ d')) *ℤ w
forced_x a b d a' b' d' x y w e f =
    by_two b' (neg_ℤ b) e f (ring (a ∷ b ∷ d ∷ a' ∷ b' ∷ d' ∷ x ∷ y ∷ w ∷ []) (search quotes depth 30) refl)

forced_y : (a b d a' b' d' x y w : ℤ) → (a *ℤ x +ℤ b *ℤ y) -ℤ d *ℤ w ≡ pos 0 → (a' *ℤ x +ℤ b' *ℤ y) -ℤ d' *ℤ w ≡ pos 0 → ((a *ℤ b') -ℤ (b *ℤ a')) *ℤ y ≡ ((a *ℤ d') -ℤ (d *ℤ a')) *ℤ w
forced_y a b d a' b' d' x y w e f =
    by_two (neg_ℤ a') a e f (ring (a ∷ b ∷ d ∷ a' ∷ b' ∷ d' ∷ x ∷ y ∷ w ∷ []) (search quotes depth 30) refl)

-- a factor goes out of a proportion
pub proportion : (k cx cw x w m n : ℤ) → k ≢ pos 0 → k *ℤ cx ≡ m → k *ℤ cw ≡ n → n *ℤ x ≡ m *ℤ w → cw *ℤ x ≡ cx *ℤ w
proportion k cx cw x w m n off e f h =
    let d : (k *ℤ cw) *ℤ x ≡ (k *ℤ cx) *ℤ w = ap (λ z. z *ℤ x) f ∙ h ∙ ap (λ z. z *ℤ w) (sym e) in
    let z : k *ℤ (cw *ℤ x -ℤ cx *ℤ w) ≡ (k *ℤ cw) *ℤ x -ℤ (k *ℤ cx) *ℤ w = ring (k ∷ cw ∷ cx ∷ x ∷ w ∷ []) (search quotes depth 30) refl in
    let s : k *ℤ (cw *ℤ x -ℤ cx *ℤ w) ≡ pos 0 = z ∙ level ((k *ℤ cw) *ℤ x) ((k *ℤ cx) *ℤ w) d in
    equal (cw *ℤ x) (cx *ℤ w) (other_zero k (cw *ℤ x -ℤ cx *ℤ w) off s)
  where
    level : (a b : ℤ) → a ≡ b → a -ℤ b ≡ pos 0
    level a b e = omega (arith, ints)

    equal : (a b : ℤ) → a -ℤ b ≡ pos 0 → a ≡ b
    equal a b e = omega (arith, ints)

alike_values : (a b d x y w cx cy cw : ℤ) → cw *ℤ x ≡ cx *ℤ w → cw *ℤ y ≡ cy *ℤ w → w *ℤ ((a *ℤ cx +ℤ b *ℤ cy) -ℤ d *ℤ cw) ≡ cw *ℤ ((a *ℤ x +ℤ b *ℤ y) -ℤ d *ℤ w)
alike_values a b d x y w cx cy cw e f =
    by_two (neg_ℤ a) (neg_ℤ b) e f (ring (a ∷ b ∷ d ∷ x ∷ y ∷ w ∷ cx ∷ cy ∷ cw ∷ []) (search quotes depth 30) refl)

meeting2 : (hs : List Line2) (p : P2) → length hs ≡ 2 → Independent2 hs → ((h : Line2) → IsIn h hs → line_value h p ≡ pos 0) → Meeting line_value met2 hs p
meeting2 [] p many free on = absurd (omega (arith, many))
meeting2 (g ∷ []) p many free on = absurd (omega (arith, many))
meeting2 (g ∷ (h ∷ (k ∷ ks))) p many free on = absurd free
meeting2 (g ∷ (h ∷ [])) p many free on =
    let m = meets2 g h free in
    let c = m.at in
    let o = m.of in
    let some : o.factor ≢ pos 0 = factor_some o.factor c.w (determinant2 g h) o.w_is free in
    let eg : line_value g p ≡ pos 0 = on g (inl refl) in
    let eh : line_value h p ≡ pos 0 = on h (inr (inl refl)) in
    let ex : c.w *ℤ p.x ≡ c.x *ℤ p.w = proportion o.factor c.x c.w p.x p.w (cramer_x g h) (determinant2 g h) some o.x_is o.w_is (forced_x g.a g.b g.d h.a h.b h.d p.x p.y p.w eg eh) in
    let ey : c.w *ℤ p.y ≡ c.y *ℤ p.w = proportion o.factor c.y c.w p.y p.w (cramer_y g h) (determinant2 g h) some o.y_is o.w_is (forced_y g.a g.b g.d h.a h.b h.d p.x p.y p.w eg eh) in
    record {
      at = c;
      meet = m.meet;
      alike = record {
        m = p.w;
        n = c.w;
        m_positive = p.positive;
        n_positive = c.positive;
        values = λ k. alike_values k.a k.b k.d p.x p.y p.w c.x c.y c.w ex ey;
      };
    }

-- ---- the normal
squares : (a b : ℤ) → (a ≡ pos 0 → b ≡ pos 0 → ⊥) → pos 0 <ℤ (a *ℤ a +ℤ b *ℤ b)
squares (pos zero) b n = let s = pos-square b (λ e. n refl e) in omega (arith, ints, s)
squares (pos (suc m)) b n = let s = nonneg-square b in omega (arith, ints, s)
squares (negsuc m) b n = let s = nonneg-square b in omega (arith, ints, s)

pub line_some : (g : Line2) → g.a ≡ pos 0 → g.b ≡ pos 0 → ⊥
line_some g e f = let n = g.normal in absurd (omega (arith, ints, n, e, f))

pub ways2 : AreWays line_value met2 2 walls2 slope2 move2 back2 IsSome2 Independent2
ways2 = record {
  move_law = record { moved = λ h p a b u. moved h.a h.b h.d p.x p.y p.w (pos (suc b)) (pos a) u.x u.y };
  back_slope = λ h u. turned h.a h.b u.x u.y;
  back_some = λ u some e f. some (neg_some u.x e) (neg_some u.y f);
  none = tt;
  direction = direction2;
  bounded = λ b u some. bound2 b u.x u.y some;
  meets = meeting2;
  rise = λ g. record { along = record { x = g.a; y = g.b }; rises = squares g.a g.b (line_some g) };
}

pub flat_hull : HullLaw line_side met2 2 walls2
flat_hull = hull_law line_value met2 2 walls2 slope2 move2 back2 IsSome2 Independent2 ways2
