-- Two lists of masks that grow by ever larger masks, all of which differ. Only the tests use it.
use Rattle.std.proofs.Common.{ℕ, ◌≡◌, ◌≢◌, ◌+◌, ◌<◌, ◌≤◌, List, [], ◌∷◌, ◌++◌, get_or, sym, subst, arith}
use Rattle.std.specs.List.{All, AllPairs}
use Rattle.std.proofs.lemmas.List.Elements.{All-push, All-weaker}
use Rattle.std.proofs.lemmas.List.Quantifiers.{all_pairs_push}
use Rattle.bc_cover.proofs.DistinctFacts.{Differ}

-- two lists of masks below a limit, which all differ
pub record AreSplit (next : ℕ) (inside outside : List ℕ) : Type 0 where
  pub inside_below : All (λ mask. mask < next) inside
  pub outside_below : All (λ mask. mask < next) outside
  pub inside_differ : AllPairs Differ inside
  pub outside_differ : AllPairs Differ outside
  pub apart : All (λ mask. All (λ other. mask ≢ other) outside) inside

below_more : (next mask : ℕ) (xs : List ℕ) → next ≤ mask → All (λ m. m < next) xs → All (λ m. m < mask + 1) xs
below_more next mask xs le all = All-weaker (λ m. m < next) (λ m. m < mask + 1) (λ m h. omega (arith, h, le)) xs all

pub split_inside : (next mask : ℕ) (inside outside more : List ℕ) → next ≤ mask → more ≡ inside ++ mask ∷ [] → AreSplit next inside outside → AreSplit (mask + 1) more outside
split_inside next mask inside outside more le e split =
    let P : List ℕ → Type 0 = λ xs. AreSplit (mask + 1) xs outside in
    subst P (sym e)
    (record {
      inside_below = All-push (λ m. m < mask + 1) inside mask (below_more next mask inside le split.inside_below) (omega arith);
      outside_below = below_more next mask outside le split.outside_below;
      inside_differ = all_pairs_push Differ inside mask split.inside_differ (λ k d h same. let below : get_or inside k d < next = split.inside_below k d h in omega (arith, below, le, same));
      outside_differ = split.outside_differ;
      apart = All-push (λ m. All (λ other. m ≢ other) outside) inside mask split.apart (λ k d h same. let below : get_or outside k d < next = split.outside_below k d h in omega (arith, below, le, same));
    })

pub split_outside : (next mask : ℕ) (inside outside more : List ℕ) → next ≤ mask → more ≡ outside ++ mask ∷ [] → AreSplit next inside outside → AreSplit (mask + 1) inside more
split_outside next mask inside outside more le e split =
    let P : List ℕ → Type 0 = λ xs. AreSplit (mask + 1) inside xs in
    subst P (sym e)
    (record {
      inside_below = below_more next mask inside le split.inside_below;
      outside_below = All-push (λ m. m < mask + 1) outside mask (below_more next mask outside le split.outside_below) (omega arith);
      inside_differ = split.inside_differ;
      outside_differ = all_pairs_push Differ outside mask split.outside_differ (λ k d h same. let below : get_or outside k d < next = split.outside_below k d h in omega (arith, below, le, same));
      apart = λ i d h. All-push (λ other. get_or inside i d ≢ other) outside mask (split.apart i d h) (λ same. let below : get_or inside i d < next = split.inside_below i d h in omega (arith, below, le, same));
    })
