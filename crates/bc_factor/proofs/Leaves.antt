-- How many leaves the factored tree has, how deep it is nested, and what holds of its leaves.
use Rattle.std.proofs.Common.{◌≡◌, ◌≤◌, ◌<◌, ◌+◌, ◌*◌, ◌^◌, max, ℕ, zero, suc, Bool, true, List, [], ◌∷◌, ◌++◌, map, filter, length, Option, None, Some, nat_eq, if◌then◌else◌, arith, sym, ap, refl, subst, ⊎_elim, ◌∙◌, All}
use Rattle.std.specs.Prelude.{not, bit_and, bit_xor, sum_by}
use Rattle.std.specs.Int.{bit_at}
use Rattle.std.proofs.lemmas.Bool.{cases_Bool, cases_eq, cases_lt, eqb-true, eq-eqb}
use Rattle.std.proofs.lemmas.Nat.Bits.{bit_at-lt, bit_at-zero, bit_at_above}
use Rattle.std.proofs.lemmas.List.Filters.{sum_by-filter_both}
use Rattle.std.proofs.lemmas.List.Sums.{sum_by-cons, length-filter, count_by-le-length}
use Rattle.std.proofs.lemmas.List.Elements.{All-head, All-tail}
use Rattle.bc_cover.specs.declared.term.Term.{Term}
use Rattle.bc_tree.specs.declared.tree.Leaf.{Leaf}
use Rattle.bc_tree.specs.Shape.{Shape, leaf, union, shapes_of, depth, depths}
use Rattle.bc_tree.specs.declared.product.Product.{Product}
use Rattle.bc_tree.specs.Cuts.{picked, cover_shape, product_of, product_shape}
use Rattle.bc_cover.specs.Covers.{Literal, positive, negative}
use Rattle.bc_factor.specs.Shared.{stands, place, count, most_shared, common, stripped, with_literal, other_than}
use Rattle.bc_factor.specs.Factored.{group, parted, grouped, trees, factored_shape}
use Rattle.bc_factor.specs.Counts.{leaf_count, leaf_counts, Share}
use Rattle.bc_factor.proofs.Bits.{Within, IsPart, Each, common_of_all, left_bit}
use Rattle.bc_factor.proofs.Choice.{chosen}
use Rattle.bc_factor.proofs.InCommon.{stand_in_filter, common_stands}
use Rattle.bc_tree.proofs.Covers.{picked_flat}

-- ---- the leaves that a mask picks

abbrev pub weight : ℕ → ℕ → List Leaf → ℕ
weight mask i ls = leaf_counts (shapes_of (picked mask i ls))

weight_step : (mask i : ℕ) (l : Leaf) (ls : List Leaf) → weight mask i (l ∷ ls) ≡ bit_at mask i + weight mask (i + 1) ls
weight_step mask i l ls =
    let rest = picked mask (i + 1) ls in
    ⊎_elim
    (λ yes.
    let one : bit_at mask i ≡ 1 = eqb-true (bit_at mask i) 1 yes in
    ap (λ b. leaf_counts (shapes_of (if b then leaf l ∷ rest else rest))) yes ∙ ap (λ n. n + weight mask (i + 1) ls) (sym one))
    (λ no.
    let other : bit_at mask i ≡ 1 → ⊥ = λ one. cc (eq-eqb (bit_at mask i) 1 one, no) in
    let none : bit_at mask i ≡ 0 = omega (arith, other, bit_at-lt mask i) in
    ap (λ b. leaf_counts (shapes_of (if b then leaf l ∷ rest else rest))) no ∙ omega (arith, none))
    (cases_Bool (nat_eq (bit_at mask i) 1))

-- what is left and what was taken out is what was there
weight_left : (m c i : ℕ) (ls : List Leaf) → Within c m → weight (bit_xor m (bit_and m c)) i ls + weight c i ls ≡ weight m i ls
weight_left m c i [] sub = refl
weight_left m c i (l ∷ ls) sub =
    omega (arith, weight_step (bit_xor m (bit_and m c)) i l ls, weight_step c i l ls, weight_step m i l ls, left_bit m c i sub, weight_left m c (i + 1) ls sub)

weight_some : (m i j : ℕ) (ls : List Leaf) → bit_at m j ≡ 1 → i ≤ j → j < i + length ls → 0 < weight m i ls
weight_some m i j [] one ge lt = absurd (omega (arith, ge, lt))
weight_some m i j (l ∷ ls) one ge lt =
    ⊎_elim
    (λ same. let here : bit_at m i ≡ 1 = cc (one, same) in omega (arith, weight_step m i l ls, here))
    (λ other. omega (arith, weight_step m i l ls, weight_some m (i + 1) j ls one (omega (arith, ge, other)) (omega (arith, lt))))
    (cases_eq j i)

weight_none : (i : ℕ) (ls : List Leaf) → weight 0 i ls ≡ 0
weight_none i [] = refl
weight_none i (l ∷ ls) = omega (arith, weight_step 0 i l ls, bit_at-zero i, weight_none (i + 1) ls)

counts_with : (xs : List Shape) (s : Shape) → leaf_counts (shapes_of (xs ++ s ∷ [])) ≡ leaf_counts (shapes_of xs) + leaf_count s
counts_with [] s = omega arith
counts_with (x ∷ xs) s = omega (arith, counts_with xs s)

module _ (block : Leaf) (leaves : List Leaf) where
  -- how many leaves the plain tree has
  abbrev alone : Product → ℕ
  alone t = leaf_count (product_shape block leaves t)

  abbrev taken : Product → ℕ
  taken c = weight c.pos 0 leaves + weight c.neg 0 leaves

  alone_left : (c t : Product) → IsPart c t → alone (stripped c t) + taken c ≡ alone t
  alone_left c t sub = omega (arith, weight_left t.pos c.pos 0 leaves sub.pos, weight_left t.neg c.neg 0 leaves sub.neg)

  sums_left : (c : Product) (ts : List Product) → Each c ts → sum_by alone (map (stripped c) ts) ≤ sum_by alone ts
  sums_left c [] sub = omega arith
  sums_left c (t ∷ ts) sub =
      omega (arith, alone_left c t sub.0, sums_left c ts sub.1, sum_by-cons alone t ts, sum_by-cons alone (stripped c t) (map (stripped c) ts))

  group_count : (c : Product) (inner : List Shape) → leaf_count (group leaves c inner) ≡ taken c + leaf_counts (shapes_of inner)
  group_count c inner = omega (arith, counts_with (picked c.pos 0 leaves) (union (shapes_of inner)))

  -- a group has no more leaves than its products alone
  group_le : (ts : List Product) (inner : List Shape) → leaf_counts (shapes_of inner) ≤ sum_by alone (map (stripped (common ts)) ts) → leaf_count (group leaves (common ts) inner) ≤ sum_by alone ts
  group_le [] inner h = omega (arith, group_count (common []) inner, h, weight_none 0 leaves)
  group_le (t ∷ ts) inner h =
      let c = common (t ∷ ts) in
      let sub = common_of_all (t ∷ ts) in
      omega (arith, group_count c inner, h, alone_left c t sub.0, sums_left c ts sub.1, sum_by-cons alone t ts, sum_by-cons alone (stripped c t) (map (stripped c) ts))

  -- and fewer where two products or more share a literal
  group_lt : (ts : List Product) (inner : List Shape) → 2 ≤ length ts → 0 < taken (common ts) → leaf_counts (shapes_of inner) ≤ sum_by alone (map (stripped (common ts)) ts)
      → leaf_count (group leaves (common ts) inner) < sum_by alone ts
  group_lt [] inner two some h = absurd (omega (arith, two))
  group_lt (t ∷ []) inner two some h = absurd (omega (arith, two))
  group_lt (t ∷ u ∷ ts) inner two some h =
      let c = common (t ∷ u ∷ ts) in
      let sub = common_of_all (t ∷ u ∷ ts) in
      omega (arith, group_count c inner, h, some, alone_left c t sub.0, alone_left c u sub.1.0, sums_left c ts sub.1.1, sum_by-cons alone t (u ∷ ts), sum_by-cons alone u ts, sum_by-cons alone (stripped c t) (map (stripped c) (u ∷ ts)), sum_by-cons alone (stripped c u) (map (stripped c) ts))

  counts_alone : (ts : List Product) → leaf_counts (shapes_of (map (product_shape block leaves) ts)) ≡ sum_by alone ts
  counts_alone [] = refl
  counts_alone (t ∷ ts) = omega (arith, counts_alone ts, sum_by-cons alone t ts)

  both_sums : (l : Literal) (ts : List Product) → sum_by alone (with_literal l ts) + sum_by alone (other_than l ts) ≡ sum_by alone ts
  both_sums l ts = sum_by-filter_both (stands l) (λ t. not (stands l t)) (λ t. refl) alone ts

  parted_le : (together : List Product → Shape) (later : List Product → List Shape) (o : Option Literal) (ts : List Product)
      → ((us : List Product) → leaf_count (together us) ≤ sum_by alone us) → ((us : List Product) → leaf_counts (shapes_of (later us)) ≤ sum_by alone us)
      → leaf_counts (shapes_of (parted (product_shape block leaves) together later o ts)) ≤ sum_by alone ts
  parted_le together later None ts h k = omega (arith, counts_alone ts)
  parted_le together later (Some l) ts h k = omega (arith, h (with_literal l ts), k (other_than l ts), both_sums l ts)

  grouped_le : (together : List Product → Shape) (n : ℕ) (ts : List Product) → ((us : List Product) → leaf_count (together us) ≤ sum_by alone us)
      → leaf_counts (shapes_of (grouped (product_shape block leaves) together n ts)) ≤ sum_by alone ts
  grouped_le together zero ts h = omega (arith, counts_alone ts)
  grouped_le together (suc n) ts h = parted_le together (grouped (product_shape block leaves) together n) (most_shared ts) ts h (λ us. grouped_le together n us h)

  trees_le : (levels : ℕ) (ts : List Product) → leaf_counts (shapes_of (trees block leaves levels ts)) ≤ sum_by alone ts
  trees_le zero ts = omega (arith, counts_alone ts)
  trees_le (suc levels) ts =
      grouped_le (λ shared. group leaves (common shared) (trees block leaves levels (map (stripped (common shared)) shared))) (length ts) ts
      (λ us. group_le us (trees block leaves levels (map (stripped (common us)) us)) (trees_le levels (map (stripped (common us)) us)))

  -- ---- nesting

  depths_with : (xs : List Shape) (s : Shape) → depths (shapes_of (xs ++ s ∷ [])) ≡ max (depths (shapes_of xs)) (depth s)
  depths_with [] s = omega arith
  depths_with (x ∷ xs) s = omega (arith, depths_with xs s)

  plain_depth : (t : Product) → depth (product_shape block leaves t) ≤ 2
  plain_depth t = omega (arith, picked_flat t.pos 0 leaves, picked_flat t.neg 0 leaves)

  plains_depth : (ts : List Product) → depths (shapes_of (map (product_shape block leaves) ts)) ≤ 2
  plains_depth [] = omega arith
  plains_depth (t ∷ ts) = omega (arith, plain_depth t, plains_depth ts)

  group_depth : (c : Product) (inner : List Shape) (n : ℕ) → depths (shapes_of inner) ≤ n → depth (group leaves c inner) ≤ n + 3
  group_depth c inner n h = omega (arith, h, picked_flat c.pos 0 leaves, picked_flat c.neg 0 leaves, depths_with (picked c.pos 0 leaves) (union (shapes_of inner)))

  parted_depth : (together : List Product → Shape) (later : List Product → List Shape) (o : Option Literal) (ts : List Product) (n : ℕ) → 2 ≤ n
      → ((us : List Product) → depth (together us) ≤ n) → ((us : List Product) → depths (shapes_of (later us)) ≤ n)
      → depths (shapes_of (parted (product_shape block leaves) together later o ts)) ≤ n
  parted_depth together later None ts n two h k = omega (arith, plains_depth ts, two)
  parted_depth together later (Some l) ts n two h k = omega (arith, h (with_literal l ts), k (other_than l ts))

  grouped_depth : (together : List Product → Shape) (k : ℕ) (ts : List Product) (n : ℕ) → 2 ≤ n → ((us : List Product) → depth (together us) ≤ n)
      → depths (shapes_of (grouped (product_shape block leaves) together k ts)) ≤ n
  grouped_depth together zero ts n two h = omega (arith, plains_depth ts, two)
  grouped_depth together (suc k) ts n two h = parted_depth together (grouped (product_shape block leaves) together k) (most_shared ts) ts n two h (λ us. grouped_depth together k us n two h)

  trees_depth : (levels : ℕ) (ts : List Product) → depths (shapes_of (trees block leaves levels ts)) ≤ 3 * levels + 2
  trees_depth zero ts = omega (arith, plains_depth ts)
  trees_depth (suc levels) ts =
      let n = 3 * levels + 2 in
      let deep : depths (shapes_of (trees block leaves (suc levels) ts)) ≤ n + 3 =
      grouped_depth (λ shared. group leaves (common shared) (trees block leaves levels (map (stripped (common shared)) shared))) (length ts) ts (n + 3) (omega arith)
      (λ us. group_depth (common us) (trees block leaves levels (map (stripped (common us)) us)) n (trees_depth levels (map (stripped (common us)) us))) in
      omega (arith, deep)

pub factored_depth : (block : Leaf) (leaves : List Leaf) (terms : List Term) → depth (factored_shape block leaves terms) ≤ 63
factored_depth block leaves terms = omega (arith, trees_depth block leaves 20 (map product_of terms))

cover_count : (block : Leaf) (leaves : List Leaf) (terms : List Term) → leaf_count (cover_shape block leaves terms) ≡ sum_by (alone block leaves) (map product_of terms)
cover_count block leaves [] = refl
cover_count block leaves (t ∷ ts) = omega (arith, cover_count block leaves ts, sum_by-cons (alone block leaves) (product_of t) (map product_of ts))

pub factored_le : (block : Leaf) (leaves : List Leaf) (terms : List Term) → leaf_count (factored_shape block leaves terms) ≤ leaf_count (cover_shape block leaves terms)
factored_le block leaves terms = omega (arith, cover_count block leaves terms, trees_le block leaves 20 (map product_of terms))

-- ---- fewer leaves where a literal is shared

-- a literal whose half-space has a leaf takes a leaf
taken_some : (l : Literal) (block : Leaf) (leaves : List Leaf) (c : Product) → stands l c ≡ true → place l < length leaves → 0 < taken block leaves c
taken_some (positive i) block leaves c h lt = omega (arith, weight_some c.pos 0 i leaves (eqb-true (bit_at c.pos i) 1 h) (omega arith) (omega (arith, lt)))
taken_some (negative i) block leaves c h lt = omega (arith, weight_some c.neg 0 i leaves (eqb-true (bit_at c.neg i) 1 h) (omega arith) (omega (arith, lt)))

-- each half-space of the products is below n
abbrev pub AreBelow : ℕ → List Product → Type 0
AreBelow n [] = Unit {0}
AreBelow n (t ∷ ts) = ((t.pos < 2 ^ n) × (t.neg < 2 ^ n)) × AreBelow n ts

stands_below : (l : Literal) (n : ℕ) (t : Product) → (t.pos < 2 ^ n) × (t.neg < 2 ^ n) → stands l t ≡ true → place l < n
stands_below (positive i) n t below h =
    ⊎_elim (λ lt. lt) (λ ge. let none = bit_at_above t.pos n i below.0 ge in let one = eqb-true (bit_at t.pos i) 1 h in absurd (omega (arith, none, one))) (cases_lt i n)
stands_below (negative i) n t below h =
    ⊎_elim (λ lt. lt) (λ ge. let none = bit_at_above t.neg n i below.1 ge in let one = eqb-true (bit_at t.neg i) 1 h in absurd (omega (arith, none, one))) (cases_lt i n)

below_filter : (n : ℕ) (test : Product → Bool) (ts : List Product) → AreBelow n ts → AreBelow n (filter test ts)
below_filter n test [] h = tt
below_filter n test (t ∷ ts) h =
    ⊎_elim
    (λ yes. subst (λ b. AreBelow n (if b then t ∷ filter test ts else filter test ts)) (sym yes) (h.0, below_filter n test ts h.1))
    (λ no. subst (λ b. AreBelow n (if b then t ∷ filter test ts else filter test ts)) (sym no) (below_filter n test ts h.1))
    (cases_Bool (test t))

-- a literal that stands somewhere has a half-space below n
first_below : (l : Literal) (n : ℕ) (ts : List Product) → 0 < length ts → All (λ t. stands l t ≡ true) ts → AreBelow n ts → place l < n
first_below l n [] some h below = absurd (omega (arith, some))
first_below l n (t ∷ ts) some h below = stands_below l n t below.0 (All-head (λ u. stands l u ≡ true) t ts h)

module _ (block : Leaf) (leaves : List Leaf) where
  parted_lt : (together : List Product → Shape) (later : List Product → List Shape) (l : Literal) (o : Option Literal) (ts : List Product) → o ≡ Some l
      → leaf_count (together (with_literal l ts)) < sum_by (alone block leaves) (with_literal l ts) → ((us : List Product) → leaf_counts (shapes_of (later us)) ≤ sum_by (alone block leaves) us)
      → leaf_counts (shapes_of (parted (product_shape block leaves) together later o ts)) < sum_by (alone block leaves) ts
  parted_lt together later l o ts is h k =
      subst (λ o. leaf_counts (shapes_of (parted (product_shape block leaves) together later o ts)) < sum_by (alone block leaves) ts) (sym is)
      (omega (arith, h, k (other_than l ts), both_sums block leaves l ts))

  grouped_lt : (together : List Product → Shape) (l : Literal) (n : ℕ) (ts : List Product) → 0 < n → most_shared ts ≡ Some l
      → ((us : List Product) → leaf_count (together us) ≤ sum_by (alone block leaves) us) → leaf_count (together (with_literal l ts)) < sum_by (alone block leaves) (with_literal l ts)
      → leaf_counts (shapes_of (grouped (product_shape block leaves) together n ts)) < sum_by (alone block leaves) ts
  grouped_lt together l zero ts some is h k = absurd (omega (arith, some))
  grouped_lt together l (suc n) ts some is h k = parted_lt together (grouped (product_shape block leaves) together n) l (most_shared ts) ts is k (λ us. grouped_le block leaves together n us h)

  trees_lt : (levels : ℕ) (l : Literal) (ts : List Product) → most_shared ts ≡ Some l → 2 ≤ count l ts → AreBelow (length leaves) ts
      → leaf_counts (shapes_of (trees block leaves (suc levels) ts)) < sum_by (alone block leaves) ts
  trees_lt levels l ts is two below =
      let shared = with_literal l ts in
      let size : length shared ≡ count l ts = length-filter (stands l) ts in
      let most : count l ts ≤ length ts = count_by-le-length (stands l) ts in
      let inner = λ (us : List Product). trees block leaves levels (map (stripped (common us)) us) in
      let here : place l < length leaves = first_below l (length leaves) shared (omega (arith, size, two)) (stand_in_filter l ts) (below_filter (length leaves) (stands l) ts below) in
      let some : 0 < taken block leaves (common shared) = taken_some l block leaves (common shared) (common_stands l shared (omega (arith, size, two)) (stand_in_filter l ts)) here in
      grouped_lt (λ us. group leaves (common us) (inner us)) l (length ts) ts (omega (arith, two, most)) is
      (λ us. group_le block leaves us (inner us) (trees_le block leaves levels (map (stripped (common us)) us)))
      (group_lt block leaves shared (inner shared) (omega (arith, size, two)) some (trees_le block leaves levels (map (stripped (common shared)) shared)))

products_below : (n : ℕ) (terms : List Term) → All (λ t. (t.pos < 2 ^ n) × (t.neg < 2 ^ n)) terms → AreBelow n (map product_of terms)
products_below n [] h = tt
products_below n (t ∷ ts) h =
    let B : Term → Type 0 = λ t. (t.pos < 2 ^ n) × (t.neg < 2 ^ n) in
    (All-head B t ts h, products_below n ts (All-tail B t ts h))

pub factored_lt : (block : Leaf) (leaves : List Leaf) (terms : List Term) → All (λ t. (t.pos < 2 ^ length leaves) × (t.neg < 2 ^ length leaves)) terms → Share terms
    → leaf_count (factored_shape block leaves terms) < leaf_count (cover_shape block leaves terms)
factored_lt block leaves terms below share =
    let ts = map product_of terms in
    let pick = chosen share.0 ts share.1 share.2 in
    let fewer = trees_lt block leaves 19 pick.0 ts pick.1 pick.2 (products_below (length leaves) terms below) in
    omega (arith, cover_count block leaves terms, fewer)
