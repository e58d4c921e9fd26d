-- Leaves of which each tree of terms is one that a text may spell are of one kind.
use Rattle.std.proofs.Common.{◌≡◌, ◌≤◌, ◌<◌, ◌+◌, ◌-◌, ◌^◌, ℕ, Bool, List, [], ◌∷◌, length, if◌then◌else◌, sym, subst, ⊎_elim, inl, inr, arith, All}
use Rattle.std.specs.Int.{bit_at}
use Rattle.std.proofs.lemmas.Bool.{eq-eqb}
use Rattle.std.proofs.lemmas.List.Elements.{All-nil, All-cons}
use Rattle.std.proofs.lemmas.Nat.Bits.{bit_at_ones}
use Rattle.bc_cover.specs.declared.term.Term.{Term}
use Rattle.bc_tree.specs.declared.tree.Leaf.{Leaf}
use Rattle.bc_tree.specs.Leaves.{IsLeaf, IsFlat, IsSpaceLeaf}
use Rattle.bc_tree.specs.Shape.{leaf, shapes_of, EachLeaf}
use Rattle.bc_tree.specs.Cuts.{picked, cover_shape}
use Rattle.bc_tree.specs.Spells.{IsAllowed}
use Rattle.bc_factor.specs.Meanings.{AreOfOneKind}

-- what holds of each leaf that a mask picks, and the mask has all bits, holds of each leaf
all_picked : (Q : Leaf → Type 0) (mask i : ℕ) (ls : List Leaf) → ((j : ℕ) → i ≤ j → j < i + length ls → bit_at mask j ≡ 1) → EachLeaf Q (shapes_of (picked mask i ls)) → All Q ls
all_picked Q mask i [] ones h = All-nil Q
all_picked Q mask i (l ∷ ls) ones h =
    let rest = picked mask (i + 1) ls in
    let W : Bool → Type 0 = λ b. EachLeaf Q (shapes_of (if b then leaf l ∷ rest else rest)) in
    let both : Q l × EachLeaf Q (shapes_of (picked mask (i + 1) ls)) = subst W (eq-eqb (bit_at mask i) 1 (ones i (omega arith) (omega arith))) h in
    All-cons Q l ls both.0 (all_picked Q mask (i + 1) ls (λ j ge lt. ones j (omega (arith, ge)) (omega (arith, lt))) both.1)

module _ (block : Leaf) (leaves : List Leaf) where
  -- the term of all leaves
  abbrev full : Term
  full = record { pos = 2 ^ length leaves - 1; neg = 0; own = 0; blocks = [] }

  of_full : (Q : Leaf → Type 0) → EachLeaf Q (shapes_of (picked (2 ^ length leaves - 1) 0 leaves)) → All Q leaves
  of_full Q h = all_picked Q (2 ^ length leaves - 1) 0 leaves (λ j ge lt. bit_at_ones (length leaves) j (omega (arith, lt))) h

  -- where each tree of terms is one that a text may spell, the leaves are of one kind and within their ranges
  pub of_one_kind : ((terms : List Term) → IsAllowed (cover_shape block leaves terms)) → AreOfOneKind block leaves
  of_one_kind allowed =
      let a = allowed (full ∷ []) in
      record {
        first = a.ranges.0.0.0;
        others = of_full IsLeaf a.ranges.0.0.1;
        kind = ⊎_elim (λ flat. inl (flat.0.0.0, of_full IsFlat flat.0.0.1)) (λ solid. inr (solid.0.0.0, of_full IsSpaceLeaf solid.0.0.1)) a.kind;
      }
