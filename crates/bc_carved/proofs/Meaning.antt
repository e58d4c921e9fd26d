-- Where the tree of a carving holds: at the points of the block whose mask some piece holds.
use Rattle.std.proofs.Common.{◌≡◌, ◌<◌, ◌^◌, ℕ, zero, suc, true, List, [], ◌∷◌, ◌++◌, length, arith, refl, sym, subst, ⊎_elim, inl, inr}
use Rattle.std.specs.Prelude.{◌⊎◌, ◌↔◌}
use Rattle.std.specs.List.{Any}
use Rattle.std.proofs.lemmas.Bool.{and_from, and_parts, or_left, or_right, or_cases, both_ways, false_from_ne_true, not_from_false, not-true}
use Rattle.std.proofs.lemmas.List.Elements.{All-nil, All-cons}
use Rattle.bc_cover.specs.declared.term.Term.{Term}
use Rattle.bc_cover.specs.Masks.{admits}
use Rattle.bc_cover.specs.Covers.{Holds}
use Rattle.bc_tree.specs.declared.tree.Leaf.{Leaf}
use Rattle.bc_tree.specs.Shape.{Shape, leaf, shapes_of}
use Rattle.bc_tree.specs.Cuts.{picked, cover_shape}
use Rattle.bc_tree.specs.Holds.{HoldsBy, SomeHolds, EachHolds}
use Rattle.bc_tree.proofs.CoverHolds.{cover_holds}
use Rattle.bc_carve.specs.Shape.{Shape as Piece, Shapes as Pieces, less, none, piece, holds, some_holds, AllProducts, EachProduct}
use Rattle.bc_carve.specs.Carving.{IsProduct}
use Rattle.bc_carved.specs.Carved.{meet_of, cut_of, piece_shape, piece_shapes, carved_shape}
use Rattle.bc_carved.specs.Meanings.{IsMaskAt, MeansBy, MeansCarving}

the_only : {X : Type 0} (A : X → Type 0) (x : X) → Any A (x ∷ []) → A x
the_only A x (zero, y, lt, e, h) = subst A (sym e) h
the_only A x (suc k, y, lt, e, h) = absurd (omega (arith, lt))

module _ {P : Type 0} (In : Leaf → P → Type 0) (block : Leaf) (p : P) where
  -- ---- meets and cuts

  each_to : (xs ys : List Shape) → EachHolds In (shapes_of (xs ++ ys)) p → EachHolds In (shapes_of xs) p × EachHolds In (shapes_of ys) p
  each_to [] ys h = (tt, h)
  each_to (x ∷ xs) ys h = let rest = each_to xs ys h.1 in ((h.0, rest.0), rest.1)

  each_from : (xs ys : List Shape) → EachHolds In (shapes_of xs) p → EachHolds In (shapes_of ys) p → EachHolds In (shapes_of (xs ++ ys)) p
  each_from [] ys h k = k
  each_from (x ∷ xs) ys h k = (h.0, each_from xs ys h.1 k)

  some_to : (xs ys : List Shape) → SomeHolds In (shapes_of (xs ++ ys)) p → SomeHolds In (shapes_of xs) p ⊎ SomeHolds In (shapes_of ys) p
  some_to [] ys h = inr h
  some_to (x ∷ xs) ys h = ⊎_elim (λ here. inl (inl here)) (λ later. ⊎_elim (λ a. inl (inr a)) (λ b. inr b) (some_to xs ys later)) h

  some_left : (xs ys : List Shape) → SomeHolds In (shapes_of xs) p → SomeHolds In (shapes_of (xs ++ ys)) p
  some_left [] ys h = absurd h
  some_left (x ∷ xs) ys h = ⊎_elim (λ here. inl here) (λ later. inr (some_left xs ys later)) h

  some_right : (xs ys : List Shape) → SomeHolds In (shapes_of ys) p → SomeHolds In (shapes_of (xs ++ ys)) p
  some_right [] ys h = h
  some_right (x ∷ xs) ys h = inr (some_right xs ys h)

  meet_holds : (xs : List Shape) → In block p → HoldsBy In (meet_of block xs) p ↔ EachHolds In (shapes_of xs) p
  meet_holds [] inside = (λ h. tt, λ h. inside)
  meet_holds (s ∷ []) inside = (λ h. (h, tt), λ h. h.0)
  meet_holds (s ∷ t ∷ ss) inside = (λ h. h, λ h. h)

  cut_holds : (first : Shape) (xs : List Shape) → HoldsBy In (cut_of first xs) p ↔ (HoldsBy In first p × (SomeHolds In (shapes_of xs) p → ⊥))
  cut_holds first [] = (λ h. (h, λ nowhere. nowhere), λ h. h.0)
  cut_holds first (s ∷ ss) = (λ h. h, λ h. h)

  -- ---- pieces

  module _ (leaves : List Leaf) (mask : ℕ) (inside : In block p) (known : IsMaskAt In leaves p mask) where
    -- the two words of a product, as they stand in a cover of one term
    product_holds : (pos neg : ℕ) → (pos < 2 ^ length leaves) × (neg < 2 ^ length leaves)
        → (EachHolds In (shapes_of (picked pos 0 leaves)) p × (SomeHolds In (shapes_of (picked neg 0 leaves)) p → ⊥)) ↔ (admits pos neg mask ≡ true)
    product_holds pos neg below =
        let t : Term = record { pos = pos; neg = neg; own = 0; blocks = [] } in
        let Below : Term → Type 0 = λ t. (t.pos < 2 ^ length leaves) × (t.neg < 2 ^ length leaves) in
        let one : HoldsBy In (cover_shape block leaves (t ∷ [])) p ↔ Any (λ t. Holds t mask) (t ∷ []) = cover_holds In block leaves (t ∷ []) p mask inside known (All-cons Below t [] below (All-nil Below)) in (
          λ h. the_only (λ t. Holds t mask) t (one.0 (inl ((inside, h.0), h.1))),
          λ h. ⊎_elim (λ here. (here.0.1, here.1)) (λ never. absurd never) (one.1 (0, t, omega arith, refl, h)),
        )

    mutual
      -- where the trees before its positive half-spaces hold
      piece_holds : (round : List Shape) (s : Piece) → EachHolds In (shapes_of round) p → AllProducts (IsProduct (length leaves)) s → HoldsBy In (piece_shape block leaves round s) p ↔ (holds mask s ≡ true)
      piece_holds round (less pos neg holes) before of =
          let A = picked pos 0 leaves in
          let N = picked neg 0 leaves in
          let H = piece_shapes block leaves holes in
          let own = product_holds pos neg (of.0.0, of.0.1) in
          let inner = pieces_hold holes of.1 in
          let taken = cut_holds (meet_of block (round ++ A)) (N ++ H) in
          let first = meet_holds (round ++ A) inside in (
            λ h.
                let parts = taken.0 h in
                and_from _ _
                (own.0 ((each_to round A (first.0 parts.0)).1, λ out. parts.1 (some_left N H out)))
                (not_from_false _ (false_from_ne_true _ (λ held. parts.1 (some_right N H (inner.1 held))))),
            λ h.
                let parts = and_parts _ _ h in
                let admitted = own.1 parts.0 in
                taken.1 (
                  first.1 (each_from round A before admitted.0),
                  λ out. ⊎_elim admitted.1 (λ hole. both_ways _ (not-true _ parts.1) (inner.0 hole)) (some_to N H out),
                ),
          )

      pieces_hold : (ss : Pieces) → EachProduct (IsProduct (length leaves)) ss → SomeHolds In (shapes_of (piece_shapes block leaves ss)) p ↔ (some_holds mask ss ≡ true)
      pieces_hold none of = (λ h. absurd h, λ h. cc)
      pieces_hold (piece s ss) of =
          let here = piece_holds [] s tt of.0 in
          let later = pieces_hold ss of.1 in (
            λ h. ⊎_elim (λ a. or_left _ _ (here.0 a)) (λ b. or_right _ _ (later.0 b)) h,
            λ h. ⊎_elim (λ a. inl (here.1 a)) (λ b. inr (later.1 b)) (or_cases _ _ h),
          )

    whole_holds : (ss : Pieces) → EachProduct (IsProduct (length leaves)) ss → HoldsBy In (carved_shape block leaves ss) p ↔ (some_holds mask ss ≡ true)
    whole_holds none of = (λ h. absurd h, λ h. cc)
    whole_holds (piece s none) of =
        let one = piece_holds (leaf block ∷ []) s (inside, tt) of.0 in
        (λ h. or_left _ _ (one.0 h), λ h. ⊎_elim one.1 (λ never. cc) (or_cases _ _ h))
    whole_holds (piece s (piece t ss)) of =
        let all = pieces_hold (piece s (piece t ss)) of in
        (λ h. all.0 h.1.0, λ h. (inside, (all.1 h, tt)))

  -- ---- the block

  lone_in_block : (s : Piece) (leaves : List Leaf) → HoldsBy In (piece_shape block leaves (leaf block ∷ []) s) p → In block p
  lone_in_block (less pos neg holes) leaves h =
      let first = ((cut_holds (meet_of block (leaf block ∷ picked pos 0 leaves)) (picked neg 0 leaves ++ piece_shapes block leaves holes)).0 h).0 in
      in_meet (picked pos 0 leaves) first
    where
      in_meet : (xs : List Shape) → HoldsBy In (meet_of block (leaf block ∷ xs)) p → In block p
      in_meet [] h = h
      in_meet (x ∷ xs) h = h.0

  whole_in_block : (leaves : List Leaf) (ss : Pieces) → HoldsBy In (carved_shape block leaves ss) p → In block p
  whole_in_block leaves none h = absurd h
  whole_in_block leaves (piece s none) h = lone_in_block s leaves h
  whole_in_block leaves (piece s (piece t ss)) h = h.0

-- whatever the leaves mean
pub carved_means : {P : Type 0} (In : Leaf → P → Type 0) (block : Leaf) (leaves : List Leaf) (ss : Pieces) → EachProduct (IsProduct (length leaves)) ss → MeansBy In block leaves ss (carved_shape block leaves ss)
carved_means In block leaves ss of = record {
  in_block = λ p h. whole_in_block In block p leaves ss h;
  at_mask = λ p mask inside known. whole_holds In block p leaves mask inside known ss of;
}

pub means_carving : (block : Leaf) (leaves : List Leaf) (ss : Pieces) → EachProduct (IsProduct (length leaves)) ss → MeansCarving block leaves ss (carved_shape block leaves ss)
means_carving block leaves ss of = record { in_plane = carved_means _ block leaves ss of; in_space = carved_means _ block leaves ss of }
