-- The factored tree holds where the plain one does.
use Rattle.std.proofs.Common.{◌≡◌, ◌+◌, ℕ, zero, suc, Bool, List, [], ◌∷◌, ◌++◌, map, filter, length, Option, None, Some, if◌then◌else◌, sym, ap, refl, subst, ⊎_elim, inl, inr}
use Rattle.std.specs.Prelude.{◌⊎◌, ◌↔◌, not}
use Rattle.std.specs.Int.{bit_at}
use Rattle.std.proofs.lemmas.Bool.{cases_Bool}
use Rattle.bc_cover.specs.declared.term.Term.{Term}
use Rattle.bc_tree.specs.declared.tree.Leaf.{Leaf}
use Rattle.bc_tree.specs.Shape.{Shape, union, shapes_of, child}
use Rattle.bc_tree.specs.Holds.{HoldsBy, SomeHolds, EachHolds}
use Rattle.bc_tree.proofs.CoverHolds.{each_split, each_join, some_split, some_join}
use Rattle.bc_tree.specs.declared.product.Product.{Product}
use Rattle.bc_tree.specs.Cuts.{picked, term_shape, cover_shape, product_of, product_shape}
use Rattle.bc_cover.specs.Covers.{Literal}
use Rattle.bc_factor.specs.Shared.{stands, most_shared, common, stripped, with_literal, other_than}
use Rattle.bc_factor.specs.Factored.{group, parted, grouped, trees, factored_shape}
use Rattle.bc_factor.specs.Meanings.{HoldAlike}
use Rattle.bc_factor.proofs.Bits.{Within, IsPart, Each, common_of_all, left_within, left_or_taken}

module _ {P : Type 0} (In : Leaf → P → Type 0) (p : P) where
  -- ---- the leaves that a mask picks

  -- each literal of the mask holds; the first leaf is that of bit i
  abbrev AllIn : ℕ → ℕ → List Leaf → Type 0
  AllIn mask i ls = EachHolds In (shapes_of (picked mask i ls)) p

  -- some literal of the mask holds
  abbrev SomeIn : ℕ → ℕ → List Leaf → Type 0
  SomeIn mask i ls = SomeHolds In (shapes_of (picked mask i ls)) p

  -- fewer literals hold more often
  all_fewer : (m n i : ℕ) (ls : List Leaf) → Within n m → AllIn m i ls → AllIn n i ls
  all_fewer m n i [] sub h = tt
  all_fewer m n i (l ∷ ls) sub h =
      let parts = each_split In p m i l ls h in
      each_join In p n i l ls (λ one. parts.0 (sub i one)) (all_fewer m n (i + 1) ls sub parts.1)

  some_more : (m n i : ℕ) (ls : List Leaf) → Within n m → SomeIn n i ls → SomeIn m i ls
  some_more m n i [] sub h = h
  some_more m n i (l ∷ ls) sub h =
      some_join In p m i l ls (⊎_elim (λ here. inl (sub i here.0, here.1)) (λ later. inr (some_more m n (i + 1) ls sub later)) (some_split In p n i l ls h))

  -- literals in two parts
  all_both : (m a b i : ℕ) (ls : List Leaf) → ((j : ℕ) → bit_at m j ≡ 1 → (bit_at a j ≡ 1) ⊎ (bit_at b j ≡ 1)) → AllIn a i ls → AllIn b i ls → AllIn m i ls
  all_both m a b i [] cover h k = tt
  all_both m a b i (l ∷ ls) cover h k =
      let left = each_split In p a i l ls h in
      let right = each_split In p b i l ls k in
      each_join In p m i l ls (λ one. ⊎_elim left.0 right.0 (cover i one)) (all_both m a b (i + 1) ls cover left.1 right.1)

  some_either : (m a b i : ℕ) (ls : List Leaf) → ((j : ℕ) → bit_at m j ≡ 1 → (bit_at a j ≡ 1) ⊎ (bit_at b j ≡ 1)) → SomeIn m i ls → SomeIn a i ls ⊎ SomeIn b i ls
  some_either m a b i [] cover h = absurd h
  some_either m a b i (l ∷ ls) cover h =
      ⊎_elim
      (λ here. ⊎_elim (λ one. inl (some_join In p a i l ls (inl (one, here.1)))) (λ one. inr (some_join In p b i l ls (inl (one, here.1)))) (cover i here.0))
      (λ later. ⊎_elim (λ x. inl (some_join In p a i l ls (inr x))) (λ x. inr (some_join In p b i l ls (inr x))) (some_either m a b (i + 1) ls cover later))
      (some_split In p m i l ls h)

  -- ---- a list and one tree behind it

  each_with : (xs : List Shape) (s : Shape) → EachHolds In (shapes_of (xs ++ s ∷ [])) p → EachHolds In (shapes_of xs) p × HoldsBy In s p
  each_with [] s h = (tt, h.0)
  each_with (x ∷ xs) s h = let rest = each_with xs s h.1 in ((h.0, rest.0), rest.1)

  each_and : (xs : List Shape) (s : Shape) → EachHolds In (shapes_of xs) p → HoldsBy In s p → EachHolds In (shapes_of (xs ++ s ∷ [])) p
  each_and [] s h k = (k, tt)
  each_and (x ∷ xs) s h k = (h.0, each_and xs s h.1 k)

  module _ (block : Leaf) (leaves : List Leaf) where
    -- some product holds
    abbrev SomePlain : List Product → Type 0
    SomePlain ts = SomeHolds In (shapes_of (map (product_shape block leaves) ts)) p

    -- the literals c hold
    abbrev Passes : Product → Type 0
    Passes c = AllIn c.pos 0 leaves × (SomeIn c.neg 0 leaves → ⊥)

    left_holds : (c t : Product) → HoldsBy In (product_shape block leaves t) p → HoldsBy In (product_shape block leaves (stripped c t)) p
    left_holds c t h = (
      (h.0.0, all_fewer t.pos (stripped c t).pos 0 leaves (left_within t.pos c.pos) h.0.1),
      λ some. h.1 (some_more t.neg (stripped c t).neg 0 leaves (left_within t.neg c.neg) some),
    )

    part_passes : (c t : Product) → IsPart c t → HoldsBy In (product_shape block leaves t) p → Passes c
    part_passes c t sub h = (all_fewer t.pos c.pos 0 leaves sub.pos h.0.1, λ some. h.1 (some_more t.neg c.neg 0 leaves sub.neg some))

    whole_holds : (c t : Product) → Passes c → HoldsBy In (product_shape block leaves (stripped c t)) p → HoldsBy In (product_shape block leaves t) p
    whole_holds c t pass h = (
      (h.0.0, all_both t.pos (stripped c t).pos c.pos 0 leaves (left_or_taken t.pos c.pos) h.0.1 pass.0),
      λ some. ⊎_elim h.1 pass.1 (some_either t.neg (stripped c t).neg c.neg 0 leaves (left_or_taken t.neg c.neg) some),
    )

    some_left : (c : Product) (ts : List Product) → Each c ts → SomePlain ts → Passes c × SomePlain (map (stripped c) ts)
    some_left c [] sub h = absurd h
    some_left c (t ∷ ts) sub h =
        ⊎_elim
        (λ here. (part_passes c t sub.0 here, inl (left_holds c t here)))
        (λ later. let rest = some_left c ts sub.1 later in (rest.0, inr rest.1))
        h

    some_whole : (c : Product) (ts : List Product) → Passes c → SomePlain (map (stripped c) ts) → SomePlain ts
    some_whole c [] pass h = absurd h
    some_whole c (t ∷ ts) pass h = ⊎_elim (λ here. inl (whole_holds c t pass here)) (λ later. inr (some_whole c ts pass later)) h

    -- a group holds where some of its products does
    group_to : (c : Product) (ts : List Product) (inner : List Shape) → Each c ts → (SomeHolds In (shapes_of inner) p ↔ SomePlain (map (stripped c) ts)) → SomePlain ts → HoldsBy In (group leaves c inner) p
    group_to c ts inner sub same h =
        let parts = some_left c ts sub h in
        (each_and (picked c.pos 0 leaves) (union (shapes_of inner)) parts.0.0 (same.1 parts.1), parts.0.1)

    group_from : (c : Product) (ts : List Product) (inner : List Shape) → (SomeHolds In (shapes_of inner) p ↔ SomePlain (map (stripped c) ts)) → HoldsBy In (group leaves c inner) p → SomePlain ts
    group_from c ts inner same h =
        let parts = each_with (picked c.pos 0 leaves) (union (shapes_of inner)) h.0 in
        some_whole c ts (parts.0, h.1) (same.0 parts.1)

    -- ---- two lists

    part_in : (test : Product → Bool) (ts : List Product) → SomePlain (filter test ts) → SomePlain ts
    part_in test [] h = h
    part_in test (t ∷ ts) h =
        let W : Bool → Type 0 = λ b. SomePlain (if b then t ∷ filter test ts else filter test ts) → SomePlain (t ∷ ts) in
        let step : W (test t) =
        ⊎_elim
        (λ yes. subst W (sym yes) (λ h. ⊎_elim (λ here. inl here) (λ later. inr (part_in test ts later)) h))
        (λ no. subst W (sym no) (λ h. inr (part_in test ts h)))
        (cases_Bool (test t)) in
        step h

    in_part : (test : Product → Bool) (ts : List Product) → SomePlain ts → SomePlain (filter test ts) ⊎ SomePlain (filter (λ t. not (test t)) ts)
    in_part test [] h = absurd h
    in_part test (t ∷ ts) h =
        let A = filter test ts in
        let B = filter (λ t. not (test t)) ts in
        let W : Bool → Type 0 = λ b. SomePlain (if b then t ∷ A else A) ⊎ SomePlain (if not b then t ∷ B else B) in
        let later : SomePlain ts → W (test t) = λ l. ⊎_elim
        (λ a. inl (⊎_elim (λ yes. subst (λ b. SomePlain (if b then t ∷ A else A)) (sym yes) (inr a)) (λ no. subst (λ b. SomePlain (if b then t ∷ A else A)) (sym no) a) (cases_Bool (test t))))
        (λ a. inr (⊎_elim (λ yes. subst (λ b. SomePlain (if not b then t ∷ B else B)) (sym yes) a) (λ no. subst (λ b. SomePlain (if not b then t ∷ B else B)) (sym no) (inr a)) (cases_Bool (test t))))
        (in_part test ts l) in
        let here : HoldsBy In (product_shape block leaves t) p → W (test t) = λ l. ⊎_elim (λ yes. subst W (sym yes) (inl (inl l))) (λ no. subst W (sym no) (inr (inl l))) (cases_Bool (test t)) in
        ⊎_elim here later h

    -- ---- the trees

    module _ (together : List Product → Shape) (whole : (ts : List Product) → HoldsBy In (together ts) p ↔ SomePlain ts) where
      parted_holds : (o : Option Literal) (later : List Product → List Shape) (ts : List Product) → ((us : List Product) → SomeHolds In (shapes_of (later us)) p ↔ SomePlain us)
          → SomeHolds In (shapes_of (parted (product_shape block leaves) together later o ts)) p ↔ SomePlain ts
      parted_holds None later ts same = (λ h. h, λ h. h)
      parted_holds (Some l) later ts same = (
        λ h. ⊎_elim (λ a. part_in (stands l) ts ((whole (with_literal l ts)).0 a)) (λ b. part_in (λ t. not (stands l t)) ts ((same (other_than l ts)).0 b)) h,
        λ h. ⊎_elim (λ a. inl ((whole (with_literal l ts)).1 a)) (λ b. inr ((same (other_than l ts)).1 b)) (in_part (stands l) ts h),
      )

      grouped_holds : (n : ℕ) (ts : List Product) → SomeHolds In (shapes_of (grouped (product_shape block leaves) together n ts)) p ↔ SomePlain ts
      grouped_holds zero ts = (λ h. h, λ h. h)
      grouped_holds (suc n) ts = parted_holds (most_shared ts) (grouped (product_shape block leaves) together n) ts (grouped_holds n)

    trees_hold : (levels : ℕ) (ts : List Product) → SomeHolds In (shapes_of (trees block leaves levels ts)) p ↔ SomePlain ts
    trees_hold zero ts = (λ h. h, λ h. h)
    trees_hold (suc levels) ts =
        grouped_holds
        (λ shared. group leaves (common shared) (trees block leaves levels (map (stripped (common shared)) shared)))
        (λ us.
        let same = trees_hold levels (map (stripped (common us)) us) in
        (group_from (common us) us _ same, group_to (common us) us _ (common_of_all us) same))
        (length ts) ts

same_plain : (block : Leaf) (leaves : List Leaf) (terms : List Term) → shapes_of (map (product_shape block leaves) (map product_of terms)) ≡ shapes_of (map (term_shape block leaves) terms)
same_plain block leaves [] = refl
same_plain block leaves (t ∷ ts) = ap (child (product_shape block leaves (product_of t))) (same_plain block leaves ts)

-- whatever the leaves mean, the factored tree holds just where the plain one does
pub factored_holds : {P : Type 0} (In : Leaf → P → Type 0) (block : Leaf) (leaves : List Leaf) (terms : List Term) (p : P)
    → HoldsBy In (factored_shape block leaves terms) p ↔ HoldsBy In (cover_shape block leaves terms) p
factored_holds In block leaves terms p =
    subst (λ s. HoldsBy In (factored_shape block leaves terms) p ↔ SomeHolds In s p) (same_plain block leaves terms) (trees_hold In p block leaves 20 (map product_of terms))

pub hold_alike : (block : Leaf) (leaves : List Leaf) (terms : List Term) → HoldAlike (factored_shape block leaves terms) (cover_shape block leaves terms)
hold_alike block leaves terms = record { in_plane = λ p. factored_holds _ block leaves terms p; in_space = λ p. factored_holds _ block leaves terms p }
