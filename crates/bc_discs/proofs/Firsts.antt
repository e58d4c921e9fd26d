-- What takes out some choices takes out those behind the first, or does so because of the first.
use Rattle.std.proofs.Common.{◌≡◌, true, false, ◌⊎◌, inl, inr, List, [], ◌∷◌, refl, sym, subst, arith}
use Rattle.std.proofs.lemmas.Int.{ints}
use Rattle.std.specs.List.{Any}
use lib.IntN.{ℤ, pos, ◌+ℤ◌, ◌-ℤ◌, ◌*ℤ◌}
use lib.Signed.{◌<ℤ◌, ◌≤ℤ◌}
use Rattle.bc_algebra.proofs.Ring.{quotes, ring}
use Rattle.bc_num.specs.declared.p2.P2.{P2}
use Rattle.bc_num.specs.declared.disc2.Disc2.{Disc2}
use Rattle.bc_discs.specs.declared.wall.Wall.{Wall}
use Rattle.bc_discs.specs.declared.choice.Choice.{Choice}
use Rattle.bc_discs.specs.declared.sieve.Sieve.{Sieve}
use Rattle.bc_discs.specs.declared.sieve.Sieve.TheVariants.{Coarse, Fine}
use Rattle.bc_discs.specs.Rules.{IsAround, IsCutOff, gap, four_radii, AreApart, IsNestedIn, IsDropped}
use Rattle.bc_discs.specs.Thinning.{IsMissed, IsExceeded, IsThinned}
use Rattle.bc_discs.specs.Firsts.{DropsFirst, ThinsFirst}
use Rattle.bc_discs.specs.Sieves.{Fires, FiresFirst}
use Rattle.bc_discs.proofs.Anys.{any_nil, any_case, any_here, any_later, any_map, pairs_more, pairs_first, pairs_second, itself, as_first, as_second, others, pair_case}

-- ---- discs that are apart

gap_turned : (x y r u v s : ℤ) → (x -ℤ u) *ℤ (x -ℤ u) +ℤ (y -ℤ v) *ℤ (y -ℤ v) -ℤ s -ℤ r ≡ (u -ℤ x) *ℤ (u -ℤ x) +ℤ (v -ℤ y) *ℤ (v -ℤ y) -ℤ r -ℤ s
gap_turned x y r u v s = ring (x ∷ y ∷ r ∷ u ∷ v ∷ s ∷ []) (search quotes depth 30) refl

radii_turned : (r s : ℤ) → pos 4 *ℤ (s *ℤ r) ≡ pos 4 *ℤ (r *ℤ s)
radii_turned r s = ring (r ∷ s ∷ []) (search quotes depth 30) refl

apart_turned : (d e : Disc2) → AreApart d e → AreApart e d
apart_turned d e h =
    let g : gap e d ≡ gap d e = gap_turned d.c.x d.c.y d.r2 e.c.x e.c.y e.r2 in
    let f : four_radii e d ≡ four_radii d e = radii_turned d.r2 e.r2 in
    record {
      outward = subst (λ (z : ℤ). pos 0 ≤ℤ z) (sym g) h.outward;
      far = subst (λ (z : ℤ). z ≤ℤ (gap e d *ℤ gap e d)) (sym f) (subst (λ (z : ℤ). four_radii d e ≤ℤ (z *ℤ z)) (sym g) h.far);
    }

gap_self : (x y r : ℤ) → (x -ℤ x) *ℤ (x -ℤ x) +ℤ (y -ℤ y) *ℤ (y -ℤ y) -ℤ r -ℤ r ≡ pos 0 -ℤ r -ℤ r
gap_self x y r = ring (x ∷ y ∷ r ∷ []) (search quotes depth 30) refl

less_twice : (r : ℤ) → pos 0 <ℤ r → pos 0 ≤ℤ (pos 0 -ℤ r -ℤ r) → ⊥
less_twice r h k = omega (arith, ints)

never_apart : (d : Disc2) → AreApart d d → ⊥
never_apart d h = less_twice d.r2 d.proper (subst (λ (z : ℤ). pos 0 ≤ℤ z) (gap_self d.c.x d.c.y d.r2) h.outward)

both_ways : {A : Type 0} (c : Choice) → c.is_in ≡ true → c.is_in ≡ false → A
both_ways c e f = absurd (cc)

-- ---- a rule for a disc that is in the set and one that is not

module _ (So : Disc2 → Disc2 → Type 0) where
  abbrev HasLeft : List Choice → Type 0
  HasLeft cs = Any (λ (c : Choice). (c.is_in ≡ true) × Any (λ (e : Choice). (e.is_in ≡ false) × So c.disc e.disc) cs) cs

  left_more : (c : Choice) (cs : List Choice) → HasLeft cs → HasLeft (c ∷ cs)
  left_more c cs h = pairs_more (λ (x : Choice). x.is_in ≡ true) (λ (x : Choice). x.is_in ≡ false) (λ (x y : Choice). So x.disc y.disc) c cs h

  left_first : (c : Choice) (cs : List Choice) → c.is_in ≡ true → Any (λ (e : Choice). (e.is_in ≡ false) × So c.disc e.disc) cs → HasLeft (c ∷ cs)
  left_first c cs p h = pairs_first (λ (x : Choice). x.is_in ≡ true) (λ (x : Choice). x.is_in ≡ false) (λ (x y : Choice). So x.disc y.disc) c cs p h

  left_second : (c : Choice) (cs : List Choice) → c.is_in ≡ false → Any (λ (e : Choice). (e.is_in ≡ true) × So e.disc c.disc) cs → HasLeft (c ∷ cs)
  left_second c cs q h = pairs_second (λ (x : Choice). x.is_in ≡ true) (λ (x : Choice). x.is_in ≡ false) (λ (x y : Choice). So x.disc y.disc) c cs q h

  left_case : (c : Choice) (cs : List Choice) → HasLeft (c ∷ cs) → (((c.is_in ≡ true) × Any (λ (e : Choice). (e.is_in ≡ false) × So c.disc e.disc) cs) ⊎ ((c.is_in ≡ false) × Any (λ (e : Choice). (e.is_in ≡ true) × So e.disc c.disc) cs)) ⊎ HasLeft cs
  left_case c cs h = elim (pair_case (λ (x : Choice). x.is_in ≡ true) (λ (x : Choice). x.is_in ≡ false) (λ (x y : Choice). So x.disc y.disc) c cs h) [
    | itself p q r ↦ both_ways c p q
    | as_first p a ↦ inl (inl (p, a))
    | as_second q a ↦ inl (inr (q, a))
    | others a ↦ inr a
  ]

-- ---- discs of the set that are apart

abbrev HasTaken : List Choice → Type 0
HasTaken cs = Any (λ (c : Choice). (c.is_in ≡ true) × Any (λ (e : Choice). (e.is_in ≡ true) × AreApart c.disc e.disc) cs) cs

taken_more : (c : Choice) (cs : List Choice) → HasTaken cs → HasTaken (c ∷ cs)
taken_more c cs h = pairs_more (λ (x : Choice). x.is_in ≡ true) (λ (x : Choice). x.is_in ≡ true) (λ (x y : Choice). AreApart x.disc y.disc) c cs h

taken_first : (c : Choice) (cs : List Choice) → c.is_in ≡ true → Any (λ (e : Choice). (e.is_in ≡ true) × AreApart c.disc e.disc) cs → HasTaken (c ∷ cs)
taken_first c cs p h = pairs_first (λ (x : Choice). x.is_in ≡ true) (λ (x : Choice). x.is_in ≡ true) (λ (x y : Choice). AreApart x.disc y.disc) c cs p h

taken_case : (c : Choice) (cs : List Choice) → HasTaken (c ∷ cs) → ((c.is_in ≡ true) × Any (λ (e : Choice). (e.is_in ≡ true) × AreApart c.disc e.disc) cs) ⊎ HasTaken cs
taken_case c cs h = elim (pair_case (λ (x : Choice). x.is_in ≡ true) (λ (x : Choice). x.is_in ≡ true) (λ (x y : Choice). AreApart x.disc y.disc) c cs h) [
  | itself p q r ↦ absurd (never_apart c.disc r)
  | as_first p a ↦ inl (p, a)
  | as_second q a ↦ inl (q, any_map (λ (e : Choice). (e.is_in ≡ true) × AreApart e.disc c.disc) (λ (e : Choice). (e.is_in ≡ true) × AreApart c.disc e.disc) cs (λ e k. (k.0, apart_turned e.disc c.disc k.1)) a)
  | others a ↦ inr a
]

-- ---- the dropping rules

module _ (corners : List P2) (walls : List Wall) (c : Choice) (cs : List Choice) where
  drops_more : IsDropped corners walls cs → IsDropped corners walls (c ∷ cs)
  drops_more (inl (inl h)) = inl (inl (any_later (λ (x : Choice). (x.is_in ≡ false) × IsAround corners x.disc) c cs h))
  drops_more (inl (inr h)) = inl (inr (any_later (λ (x : Choice). (x.is_in ≡ true) × Any (λ wall. IsCutOff wall x.disc) walls) c cs h))
  drops_more (inr (inl h)) = inr (inl (taken_more c cs h))
  drops_more (inr (inr h)) = inr (inr (left_more IsNestedIn c cs h))

  drops_first : DropsFirst corners walls c cs → IsDropped corners walls (c ∷ cs)
  drops_first (inl (inl h)) = inl (inl (any_here (λ (x : Choice). (x.is_in ≡ false) × IsAround corners x.disc) c cs h))
  drops_first (inl (inr h)) = inl (inr (any_here (λ (x : Choice). (x.is_in ≡ true) × Any (λ wall. IsCutOff wall x.disc) walls) c cs h))
  drops_first (inr (inl h)) = inr (inl (taken_first c cs h.0 h.1))
  drops_first (inr (inr (inl h))) = inr (inr (left_first IsNestedIn c cs h.0 h.1))
  drops_first (inr (inr (inr h))) = inr (inr (left_second IsNestedIn c cs h.0 h.1))

  drops_case : IsDropped corners walls (c ∷ cs) → DropsFirst corners walls c cs ⊎ IsDropped corners walls cs
  drops_case (inl (inl h)) = elim (any_case (λ (x : Choice). (x.is_in ≡ false) × IsAround corners x.disc) c cs h) [ inl a ↦ inl (inl (inl a)) | inr a ↦ inr (inl (inl a)) ]
  drops_case (inl (inr h)) = elim (any_case (λ (x : Choice). (x.is_in ≡ true) × Any (λ wall. IsCutOff wall x.disc) walls) c cs h) [ inl a ↦ inl (inl (inr a)) | inr a ↦ inr (inl (inr a)) ]
  drops_case (inr (inl h)) = elim (taken_case c cs h) [ inl a ↦ inl (inr (inl a)) | inr a ↦ inr (inr (inl a)) ]
  drops_case (inr (inr h)) = elim (left_case IsNestedIn c cs h) [ inl a ↦ inl (inr (inr a)) | inr a ↦ inr (inr (inr a)) ]

  -- ---- the two exact ones

  thins_more : IsThinned corners cs → IsThinned corners (c ∷ cs)
  thins_more (inl h) = inl (any_later (λ (x : Choice). (x.is_in ≡ true) × IsMissed corners x.disc) c cs h)
  thins_more (inr h) = inr (left_more (IsExceeded corners) c cs h)

  thins_first : ThinsFirst corners c cs → IsThinned corners (c ∷ cs)
  thins_first (inl h) = inl (any_here (λ (x : Choice). (x.is_in ≡ true) × IsMissed corners x.disc) c cs h)
  thins_first (inr (inl h)) = inr (left_first (IsExceeded corners) c cs h.0 h.1)
  thins_first (inr (inr h)) = inr (left_second (IsExceeded corners) c cs h.0 h.1)

  thins_case : IsThinned corners (c ∷ cs) → ThinsFirst corners c cs ⊎ IsThinned corners cs
  thins_case (inl h) = elim (any_case (λ (x : Choice). (x.is_in ≡ true) × IsMissed corners x.disc) c cs h) [ inl a ↦ inl (inl a) | inr a ↦ inr (inl a) ]
  thins_case (inr h) = elim (left_case (IsExceeded corners) c cs h) [ inl a ↦ inl (inr a) | inr a ↦ inr (inr a) ]

-- ---- either

module _ (corners : List P2) (walls : List Wall) (c : Choice) (cs : List Choice) where
  pub fires_more : (s : Sieve) → Fires s corners walls cs → Fires s corners walls (c ∷ cs)
  fires_more Coarse h = drops_more corners walls c cs h
  fires_more Fine (inl h) = inl (drops_more corners walls c cs h)
  fires_more Fine (inr h) = inr (thins_more corners walls c cs h)

  pub fires_first : (s : Sieve) → FiresFirst s corners walls c cs → Fires s corners walls (c ∷ cs)
  fires_first Coarse h = drops_first corners walls c cs h
  fires_first Fine (inl h) = inl (drops_first corners walls c cs h)
  fires_first Fine (inr h) = inr (thins_first corners walls c cs h)

  pub fires_case : (s : Sieve) → Fires s corners walls (c ∷ cs) → FiresFirst s corners walls c cs ⊎ Fires s corners walls cs
  fires_case Coarse h = drops_case corners walls c cs h
  fires_case Fine (inl h) = elim (drops_case corners walls c cs h) [ inl a ↦ inl (inl a) | inr a ↦ inr (inl a) ]
  fires_case Fine (inr h) = elim (thins_case corners walls c cs h) [ inl a ↦ inl (inr a) | inr a ↦ inr (inr a) ]

-- no rule takes out no choices
pub never_fires : (corners : List P2) (walls : List Wall) (s : Sieve) → Fires s corners walls [] → ⊥
never_fires corners walls s h = none s h
  where
    dropped : IsDropped corners walls [] → ⊥
    dropped (inl (inl h)) = any_nil (λ (x : Choice). (x.is_in ≡ false) × IsAround corners x.disc) h
    dropped (inl (inr h)) = any_nil (λ (x : Choice). (x.is_in ≡ true) × Any (λ wall. IsCutOff wall x.disc) walls) h
    dropped (inr (inl h)) = any_nil (λ (x : Choice). (x.is_in ≡ true) × Any (λ (e : Choice). (e.is_in ≡ true) × AreApart x.disc e.disc) []) h
    dropped (inr (inr h)) = any_nil (λ (x : Choice). (x.is_in ≡ true) × Any (λ (e : Choice). (e.is_in ≡ false) × IsNestedIn x.disc e.disc) []) h

    thinned : IsThinned corners [] → ⊥
    thinned (inl h) = any_nil (λ (x : Choice). (x.is_in ≡ true) × IsMissed corners x.disc) h
    thinned (inr h) = any_nil (λ (x : Choice). (x.is_in ≡ true) × Any (λ (e : Choice). (e.is_in ≡ false) × IsExceeded corners x.disc e.disc) []) h

    none : (s : Sieve) → Fires s corners walls [] → ⊥
    none Coarse h = dropped h
    none Fine (inl h) = dropped h
    none Fine (inr h) = thinned h
