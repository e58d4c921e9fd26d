-- The ways of space, and so its hull law.
-- A proof, which an `impl` rests on: so it stands in specs/.
use Rattle.std.proofs.Common.{◌≡◌, ◌≢◌, ℕ, zero, suc, ◌<◌, List, [], ◌∷◌, length, ◌⊎◌, inl, inr, refl, sym, ap, ◌∙◌, subst, arith}
use Rattle.std.proofs.lemmas.Int.{ints}
use lib.IntN.{ℤ, pos, negsuc, ◌+ℤ◌, ◌-ℤ◌, ◌*ℤ◌, neg_ℤ}
use lib.Signed.{◌<ℤ◌}
use Rattle.bc_algebra.proofs.Ring.{ring, quotes, by_three}
use Rattle.bc_algebra.proofs.Order.{pos-square, nonneg-square}
use Rattle.bc_hull.specs.Choices.{IsIn, IsInsertion}
use Rattle.bc_space.specs.Laws.{HullLaw}
use Rattle.bc_hull.specs.Ways.{Direction, Meeting, Bound, AreWays}
use Rattle.bc_space.specs.Laws.HullOfWays.{hull_law}
use Rattle.bc_num.specs.declared.p3.P3.{P3}
use Rattle.bc_space.specs.declared.plane3.Plane3.{Plane3}
use Rattle.bc_num.specs.declared.box3.Box3.{Box3}
use Rattle.bc_space.specs.Planes.{plane_value, plane_side}
use Rattle.bc_space.specs.Laws.FlatMeets.{factor_some}
use Rattle.bc_space.specs.Laws.FlatWays.{grown, neg_some, neg-zero, proportion}
use Rattle.bc_space.specs.Solid.{left3, right3, front3, rear3, low3, high3, walls3, met3, determinant_of_rows, cramer3_x, cramer3_y, cramer3_z, determinant3}
use Rattle.bc_space.specs.Laws.SolidMeets.{meets3}

pub record Way3 : Type 0 where
  pub x : ℤ
  pub y : ℤ
  pub z : ℤ

abbrev pub slope3 : Plane3 → Way3 → ℤ
slope3 h u = h.a *ℤ u.x +ℤ h.b *ℤ u.y +ℤ h.c *ℤ u.z

abbrev pub move3 : P3 → ℕ → ℕ → Way3 → P3
move3 p a b u = record { x = pos (suc b) *ℤ p.x +ℤ pos a *ℤ u.x; y = pos (suc b) *ℤ p.y +ℤ pos a *ℤ u.y; z = pos (suc b) *ℤ p.z +ℤ pos a *ℤ u.z; w = pos (suc b) *ℤ p.w; positive = grown b p.w p.positive }

abbrev pub back3 : Way3 → Way3
back3 u = record { x = neg_ℤ u.x; y = neg_ℤ u.y; z = neg_ℤ u.z }

abbrev pub IsSome3 : Way3 → Type 0
IsSome3 u = u.x ≡ pos 0 → u.y ≡ pos 0 → u.z ≡ pos 0 → ⊥

-- the way along both planes
abbrev pub along_both : Plane3 → Plane3 → Way3
along_both g h = record { x = g.b *ℤ h.c -ℤ g.c *ℤ h.b; y = g.c *ℤ h.a -ℤ g.a *ℤ h.c; z = g.a *ℤ h.b -ℤ g.b *ℤ h.a }

abbrev pub Independent3 : List Plane3 → Type 0
Independent3 [] = Unit {0}
Independent3 (g ∷ []) = g.a ≡ pos 0 → g.b ≡ pos 0 → g.c ≡ pos 0 → ⊥
Independent3 (g ∷ (h ∷ [])) = IsSome3 (along_both g h)
Independent3 (g ∷ (h ∷ (k ∷ []))) = determinant3 g h k ≢ pos 0
Independent3 (g ∷ (h ∷ (k ∷ (l ∷ ls)))) = ⊥

moved : (a b c d x y z w s t ux uy uz : ℤ) → (a *ℤ (s *ℤ x +ℤ t *ℤ ux) +ℤ b *ℤ (s *ℤ y +ℤ t *ℤ uy) +ℤ c *ℤ (s *ℤ z +ℤ t *ℤ uz)) -ℤ d *ℤ (s *ℤ w) ≡ s *ℤ ((a *ℤ x +ℤ b *ℤ y +ℤ c *ℤ z) -ℤ d *ℤ w) +ℤ t *ℤ (a *ℤ ux +ℤ b *ℤ uy +ℤ c *ℤ uz)
moved a b c d x y z w s t ux uy uz = ring (a ∷ b ∷ c ∷ d ∷ x ∷ y ∷ z ∷ w ∷ s ∷ t ∷ ux ∷ uy ∷ uz ∷ []) (search quotes depth 30) refl

turned : (a b c x y z : ℤ) → a *ℤ neg_ℤ x +ℤ b *ℤ neg_ℤ y +ℤ c *ℤ neg_ℤ z ≡ neg_ℤ (a *ℤ x +ℤ b *ℤ y +ℤ c *ℤ z)
turned a b c x y z = ring (a ∷ b ∷ c ∷ x ∷ y ∷ z ∷ []) (search quotes depth 30) refl

zero_or : (z : ℤ) → (z ≡ pos 0) ⊎ (z ≢ pos 0)
zero_or (pos zero) = inl refl
zero_or (pos (suc n)) = inr (λ e. cc)
zero_or (negsuc n) = inr (λ e. cc)

-- ---- directions
first_slope : (a b c : ℤ) → a ≡ pos 0 → a *ℤ pos 1 +ℤ b *ℤ pos 0 +ℤ c *ℤ pos 0 ≡ pos 0
first_slope a b c e = omega (arith, ints)

-- along one plane, and level
abbrev level_way : Plane3 → Way3
level_way h = record { x = neg_ℤ h.b; y = h.a; z = pos 0 }

-- along one plane, and upright
abbrev upright_way : Plane3 → Way3
upright_way h = record { x = pos 0; y = neg_ℤ h.c; z = h.b }

level_along : (a b c : ℤ) → a *ℤ neg_ℤ b +ℤ b *ℤ a +ℤ c *ℤ pos 0 ≡ pos 0
level_along a b c = ring (a ∷ b ∷ c ∷ []) (search quotes depth 30) refl

upright_along : (a b c : ℤ) → a *ℤ pos 0 +ℤ b *ℤ neg_ℤ c +ℤ c *ℤ b ≡ pos 0
upright_along a b c = ring (a ∷ b ∷ c ∷ []) (search quotes depth 30) refl

level_across : (a b c d e : ℤ) → a *ℤ neg_ℤ e +ℤ b *ℤ d +ℤ c *ℤ pos 0 ≡ neg_ℤ (a *ℤ e -ℤ b *ℤ d)
level_across a b c d e = ring (a ∷ b ∷ c ∷ d ∷ e ∷ []) (search quotes depth 30) refl

level_across_back : (a b c d e : ℤ) → a *ℤ neg_ℤ e +ℤ b *ℤ d +ℤ c *ℤ pos 0 ≡ d *ℤ b -ℤ e *ℤ a
level_across_back a b c d e = ring (a ∷ b ∷ c ∷ d ∷ e ∷ []) (search quotes depth 30) refl

upright_across : (a b c e f : ℤ) → a *ℤ pos 0 +ℤ b *ℤ neg_ℤ f +ℤ c *ℤ e ≡ neg_ℤ (b *ℤ f -ℤ c *ℤ e)
upright_across a b c e f = ring (a ∷ b ∷ c ∷ e ∷ f ∷ []) (search quotes depth 30) refl

upright_across_back : (a b c e f : ℤ) → a *ℤ pos 0 +ℤ b *ℤ neg_ℤ f +ℤ c *ℤ e ≡ e *ℤ c -ℤ f *ℤ b
upright_across_back a b c e f = ring (a ∷ b ∷ c ∷ e ∷ f ∷ []) (search quotes depth 30) refl

level_second : (h g : Plane3) (ks : List Plane3) → slope3 g (level_way h) ≢ pos 0 → IsInsertion g (h ∷ []) ks → Independent3 ks
level_second h g ks n (inl e) = subst Independent3 (sym e) (λ x y z. n (level_across g.a g.b g.c h.a h.b ∙ neg-zero (g.a *ℤ h.b -ℤ g.b *ℤ h.a) z))
level_second h g ks n (inr r) =
    subst Independent3 (sym (r.1 ∙ ap (λ (l : List Plane3). h ∷ l) r.2)) (λ x y z. n (level_across_back g.a g.b g.c h.a h.b ∙ z))

upright_second : (h g : Plane3) (ks : List Plane3) → slope3 g (upright_way h) ≢ pos 0 → IsInsertion g (h ∷ []) ks → Independent3 ks
upright_second h g ks n (inl e) = subst Independent3 (sym e) (λ x y z. n (upright_across g.a g.b g.c h.b h.c ∙ neg-zero (g.b *ℤ h.c -ℤ g.c *ℤ h.b) x))
upright_second h g ks n (inr r) =
    subst Independent3 (sym (r.1 ∙ ap (λ (l : List Plane3). h ∷ l) r.2)) (λ x y z. n (upright_across_back g.a g.b g.c h.b h.c ∙ x))

along_level : (h : Plane3) → (h.a ≡ pos 0 → h.b ≡ pos 0 → ⊥) → Direction slope3 IsSome3 Independent3 (h ∷ [])
along_level h some = record {
  along = level_way h;
  is_some = λ x y z. some y (neg_some h.b x);
  level = λ k. elim [ inl e ↦ subst (λ l. slope3 l (level_way h) ≡ pos 0) e (level_along h.a h.b h.c) | inr i ↦ absurd i ];
  extends = λ g ks n i. level_second h g ks n i;
}

along_upright : (h : Plane3) → h.c ≢ pos 0 → Direction slope3 IsSome3 Independent3 (h ∷ [])
along_upright h some = record {
  along = upright_way h;
  is_some = λ x y z. some (neg_some h.c y);
  level = λ k. elim [ inl e ↦ subst (λ l. slope3 l (upright_way h) ≡ pos 0) e (upright_along h.a h.b h.c) | inr i ↦ absurd i ];
  extends = λ g ks n i. upright_second h g ks n i;
}

along_one : (h : Plane3) → Independent3 (h ∷ []) → Direction slope3 IsSome3 Independent3 (h ∷ [])
along_one h free =
    elim (zero_or h.a) [
      | inr a ↦ along_level h (λ e f. a e)
      | inl a ↦ elim (zero_or h.b) [
        | inr b ↦ along_level h (λ e f. b f)
        | inl b ↦ along_upright h (λ c. free a b c)
      ]
    ]

first_level : (a b c d e f : ℤ) → a *ℤ (b *ℤ f -ℤ c *ℤ e) +ℤ b *ℤ (c *ℤ d -ℤ a *ℤ f) +ℤ c *ℤ (a *ℤ e -ℤ b *ℤ d) ≡ pos 0
first_level a b c d e f = ring (a ∷ b ∷ c ∷ d ∷ e ∷ f ∷ []) (search quotes depth 30) refl

second_level : (a b c d e f : ℤ) → d *ℤ (b *ℤ f -ℤ c *ℤ e) +ℤ e *ℤ (c *ℤ d -ℤ a *ℤ f) +ℤ f *ℤ (a *ℤ e -ℤ b *ℤ d) ≡ pos 0
second_level a b c d e f = ring (a ∷ b ∷ c ∷ d ∷ e ∷ f ∷ []) (search quotes depth 30) refl

-- the determinant with its first two rows exchanged, and with its first row last
rows_exchanged : (a b c d e f g h i : ℤ) → determinant_of_rows a b c d e f g h i ≡ neg_ℤ (determinant_of_rows d e f a b c g h i)
rows_exchanged a b c d e f g h i = ring (a ∷ b ∷ c ∷ d ∷ e ∷ f ∷ g ∷ h ∷ i ∷ []) (search quotes depth 30) refl

rows_turned : (a b c d e f g h i : ℤ) → determinant_of_rows a b c d e f g h i ≡ determinant_of_rows d e f g h i a b c
rows_turned a b c d e f g h i = ring (a ∷ b ∷ c ∷ d ∷ e ∷ f ∷ g ∷ h ∷ i ∷ []) (search quotes depth 30) refl

third : (h k g : Plane3) (ks : List Plane3) → slope3 g (along_both h k) ≢ pos 0 → IsInsertion g (h ∷ (k ∷ [])) ks → Independent3 ks
third h k g ks n (inl e) = subst Independent3 (sym e) n
third h k g ks n (inr (l, e, inl d)) =
    subst Independent3 (sym (e ∙ ap (λ (x : List Plane3). h ∷ x) d)) (λ z. n (rows_exchanged g.a g.b g.c h.a h.b h.c k.a k.b k.c ∙ neg-zero (determinant3 h g k) z))
third h k g ks n (inr (l, e, inr r)) =
    subst Independent3 (sym (e ∙ ap (λ (x : List Plane3). h ∷ x) (r.1 ∙ ap (λ (x : List Plane3). k ∷ x) r.2))) (λ z. n (rows_turned g.a g.b g.c h.a h.b h.c k.a k.b k.c ∙ z))

direction3 : (hs : List Plane3) → Independent3 hs → length hs < 3 → Direction slope3 IsSome3 Independent3 hs
direction3 [] free less = record {
  along = record { x = pos 1; y = pos 0; z = pos 0 };
  is_some = λ e f g. cc;
  level = λ h i. absurd i;
  extends = λ g ks n i. subst Independent3 (sym i) (λ x y z. n (first_slope g.a g.b g.c x));
}
direction3 (h ∷ []) free less = along_one h free
direction3 (h ∷ (k ∷ [])) free less = record {
  along = along_both h k;
  is_some = free;
  level = λ g. elim [
    | inl e ↦ subst (λ l. slope3 l (along_both h k) ≡ pos 0) e (first_level h.a h.b h.c k.a k.b k.c)
    | inr (inl e) ↦ subst (λ l. slope3 l (along_both h k) ≡ pos 0) e (second_level h.a h.b h.c k.a k.b k.c)
    | inr (inr i) ↦ absurd i
  ];
  extends = λ g ks n i. third h k g ks n i;
}
direction3 (g ∷ (h ∷ (k ∷ ks))) free less = absurd (omega (arith, less))

-- ---- walls
bound3 : (b : Box3) (x y z : ℤ) → (x ≡ pos 0 → y ≡ pos 0 → z ≡ pos 0 → ⊥) → Bound slope3 (walls3 b) (record { x = x; y = y; z = z })
bound3 b (negsuc n) y z some = record { at = left3 b; from = inl refl; falls = omega (arith, ints) }
bound3 b (pos (suc n)) y z some = record { at = right3 b; from = inr (inl refl); falls = omega (arith, ints) }
bound3 b (pos zero) (negsuc n) z some = record { at = front3 b; from = inr (inr (inl refl)); falls = omega (arith, ints) }
bound3 b (pos zero) (pos (suc n)) z some = record { at = rear3 b; from = inr (inr (inr (inl refl))); falls = omega (arith, ints) }
bound3 b (pos zero) (pos zero) (negsuc n) some = record { at = low3 b; from = inr (inr (inr (inr (inl refl)))); falls = omega (arith, ints) }
bound3 b (pos zero) (pos zero) (pos (suc n)) some = record { at = high3 b; from = inr (inr (inr (inr (inr (inl refl))))); falls = omega (arith, ints) }
bound3 b (pos zero) (pos zero) (pos zero) some = absurd (some refl refl refl)

-- ---- the common point
module _ (a b c d a' b' c' d' a'' b'' c'' d'' x y z w : ℤ) (e : (a *ℤ x +ℤ b *ℤ y +ℤ c *ℤ z) -ℤ d *ℤ w ≡ pos 0) (e' : (a' *ℤ x +ℤ b' *ℤ y +ℤ c' *ℤ z) -ℤ d' *ℤ w ≡ pos 0) (e'' : (a'' *ℤ x +ℤ b'' *ℤ y +ℤ c'' *ℤ z) -ℤ d'' *ℤ w ≡ pos 0) where
  forced_x : determinant_of_rows a b c a' b' c' a'' b'' c'' *ℤ x ≡ determinant_of_rows d b c d' b' c' d'' b'' c'' *ℤ w
  forced_x = by_three (b' *ℤ c'' -ℤ c' *ℤ b'') (c *ℤ b'' -ℤ b *ℤ c'') (b *ℤ c' -ℤ c *ℤ b') e e' e'' (ring (a ∷ b ∷ c ∷ d ∷ a' ∷ b' ∷ c' ∷ d' ∷ a'' ∷ b'' ∷ c'' ∷ d'' ∷ x ∷ y ∷ z ∷ w ∷ []) (search quotes depth 30) refl)

  forced_y : determinant_of_rows a b c a' b' c' a'' b'' c'' *ℤ y ≡ determinant_of_rows a d c a' d' c' a'' d'' c'' *ℤ w
  forced_y = by_three (c' *ℤ a'' -ℤ a' *ℤ c'') (a *ℤ c'' -ℤ c *ℤ a'') (c *ℤ a' -ℤ a *ℤ c') e e' e'' (ring (a ∷ b ∷ c ∷ d ∷ a' ∷ b' ∷ c' ∷ d' ∷ a'' ∷ b'' ∷ c'' ∷ d'' ∷ x ∷ y ∷ z ∷ w ∷ []) (search quotes depth 30) refl)

  forced_z : determinant_of_rows a b c a' b' c' a'' b'' c'' *ℤ z ≡ determinant_of_rows a b d a' b' d' a'' b'' d'' *ℤ w
  forced_z = by_three (a' *ℤ b'' -ℤ b' *ℤ a'') (b *ℤ a'' -ℤ a *ℤ b'') (a *ℤ b' -ℤ b *ℤ a') e e' e'' (ring (a ∷ b ∷ c ∷ d ∷ a' ∷ b' ∷ c' ∷ d' ∷ a'' ∷ b'' ∷ c'' ∷ d'' ∷ x ∷ y ∷ z ∷ w ∷ []) (search quotes depth 30) refl)

alike_values : (a b c d x y z w cx cy cz cw : ℤ) → cw *ℤ x ≡ cx *ℤ w → cw *ℤ y ≡ cy *ℤ w → cw *ℤ z ≡ cz *ℤ w → w *ℤ ((a *ℤ cx +ℤ b *ℤ cy +ℤ c *ℤ cz) -ℤ d *ℤ cw) ≡ cw *ℤ ((a *ℤ x +ℤ b *ℤ y +ℤ c *ℤ z) -ℤ d *ℤ w)
alike_values a b c d x y z w cx cy cz cw e f g =
    by_three (neg_ℤ a) (neg_ℤ b) (neg_ℤ c) e f g (ring (a ∷ b ∷ c ∷ d ∷ x ∷ y ∷ z ∷ w ∷ cx ∷ cy ∷ cz ∷ cw ∷ []) (search quotes depth 30) refl)

meeting3 : (hs : List Plane3) (p : P3) → length hs ≡ 3 → Independent3 hs → ((h : Plane3) → IsIn h hs → plane_value h p ≡ pos 0) → Meeting plane_value met3 hs p
meeting3 [] p many free on = absurd (omega (arith, many))
meeting3 (g ∷ []) p many free on = absurd (omega (arith, many))
meeting3 (g ∷ (h ∷ [])) p many free on = absurd (omega (arith, many))
meeting3 (g ∷ (h ∷ (k ∷ (l ∷ ls)))) p many free on = absurd free
meeting3 (g ∷ (h ∷ (k ∷ []))) p many free on =
    let m = meets3 g h k free in
    let c = m.at in
    let o = m.of in
    let some : o.factor ≢ pos 0 = factor_some o.factor c.w (determinant3 g h k) o.w_is free in
    let eg : plane_value g p ≡ pos 0 = on g (inl refl) in
    let eh : plane_value h p ≡ pos 0 = on h (inr (inl refl)) in
    let ek : plane_value k p ≡ pos 0 = on k (inr (inr (inl refl))) in
    let ex : c.w *ℤ p.x ≡ c.x *ℤ p.w = proportion o.factor c.x c.w p.x p.w (cramer3_x g h k) (determinant3 g h k) some o.x_is o.w_is (forced_x g.a g.b g.c g.d h.a h.b h.c h.d k.a k.b k.c k.d p.x p.y p.z p.w eg eh ek) in
    let ey : c.w *ℤ p.y ≡ c.y *ℤ p.w = proportion o.factor c.y c.w p.y p.w (cramer3_y g h k) (determinant3 g h k) some o.y_is o.w_is (forced_y g.a g.b g.c g.d h.a h.b h.c h.d k.a k.b k.c k.d p.x p.y p.z p.w eg eh ek) in
    let ez : c.w *ℤ p.z ≡ c.z *ℤ p.w = proportion o.factor c.z c.w p.z p.w (cramer3_z g h k) (determinant3 g h k) some o.z_is o.w_is (forced_z g.a g.b g.c g.d h.a h.b h.c h.d k.a k.b k.c k.d p.x p.y p.z p.w eg eh ek) in
    record {
      at = c;
      meet = m.meet;
      alike = record {
        m = p.w;
        n = c.w;
        m_positive = p.positive;
        n_positive = c.positive;
        values = λ l. alike_values l.a l.b l.c l.d p.x p.y p.z p.w c.x c.y c.z c.w ex ey ez;
      };
    }

-- ---- the normal
squares : (a b c : ℤ) → (a ≡ pos 0 → b ≡ pos 0 → c ≡ pos 0 → ⊥) → pos 0 <ℤ (a *ℤ a +ℤ b *ℤ b +ℤ c *ℤ c)
squares (pos zero) (pos zero) c n = let s = pos-square c (λ e. n refl refl e) in omega (arith, ints, s)
squares (pos zero) (pos (suc m)) c n = let s = nonneg-square c in omega (arith, ints, s)
squares (pos zero) (negsuc m) c n = let s = nonneg-square c in omega (arith, ints, s)
squares (pos (suc m)) b c n = let r = nonneg-square b in let s = nonneg-square c in omega (arith, ints, r, s)
squares (negsuc m) b c n = let r = nonneg-square b in let s = nonneg-square c in omega (arith, ints, r, s)

plane_some : (g : Plane3) → g.a ≡ pos 0 → g.b ≡ pos 0 → g.c ≡ pos 0 → ⊥
plane_some g d e f = let n = g.normal in absurd (omega (arith, ints, n, d, e, f))

pub ways3 : AreWays plane_value met3 3 walls3 slope3 move3 back3 IsSome3 Independent3
ways3 = record {
  move_law = record { moved = λ h p a b u. moved h.a h.b h.c h.d p.x p.y p.z p.w (pos (suc b)) (pos a) u.x u.y u.z };
  back_slope = λ h u. turned h.a h.b h.c u.x u.y u.z;
  back_some = λ u some e f g. some (neg_some u.x e) (neg_some u.y f) (neg_some u.z g);
  none = tt;
  direction = direction3;
  bounded = λ b u some. bound3 b u.x u.y u.z some;
  meets = meeting3;
  rise = λ g. record { along = record { x = g.a; y = g.b; z = g.c }; rises = squares g.a g.b g.c (plane_some g) };
}

pub solid_hull : HullLaw plane_side met3 3 walls3
solid_hull = hull_law plane_value met3 3 walls3 slope3 move3 back3 IsSome3 Independent3 ways3
