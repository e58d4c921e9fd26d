-- The factored tree once more, group by group, and what the words of its definition mean.
use Rattle.std.specs.Prelude.{ℕ, ◌≡◌, ◌<◌, ◌≤◌, ◌+◌, ◌⊎◌, ◌↔◌, true, false, List, [], ◌∷◌, map, length, None, Some}
use Rattle.std.specs.List.{All}
use Rattle.bc_cover.specs.Covers.{Literal, positive, negative}
use Rattle.bc_tree.specs.declared.tree.Leaf.{Leaf}
use Rattle.bc_tree.specs.declared.product.Product.{Product}
use Rattle.bc_tree.specs.Cuts.{product_shape}
use Rattle.bc_factor.specs.Shared.{stands, place, count, most_shared, common, stripped, with_literal, other_than}
use Rattle.bc_factor.specs.Factored.{group, trees}

-- ---- the words

-- the first literal has the lesser half-space, or both have the same and the first alone is positive
abbrev pub LiteralPrecedes : Literal → Literal → Type 0
LiteralPrecedes (positive i) (positive j) = i < j
LiteralPrecedes (positive i) (negative j) = i ≤ j
LiteralPrecedes (negative i) (positive j) = i < j
LiteralPrecedes (negative i) (negative j) = i < j

-- a literal that stands in two of the products at least, and in as many as any other; of those that stand in as many it is the
-- first
pub record IsMostShared (ts : List Product) (l : Literal) : Type 0 where
  pub half_space : place l < 64
  pub twice : 2 ≤ count l ts
  pub most : (m : Literal) → place m < 64 → count m ts ≤ count l ts
  pub first : (m : Literal) → place m < 64 → count m ts ≡ count l ts → (m ≡ l) ⊎ LiteralPrecedes l m

-- no literal stands in two of the products
abbrev pub NoneIsShared : List Product → Type 0
NoneIsShared ts = (l : Literal) → place l < 64 → count l ts < 2

abbrev pub ChosenIsMostShared : Type 0
ChosenIsMostShared = (ts : List Product) (l : Literal) → (most_shared ts ≡ Some l) ↔ IsMostShared ts l

abbrev pub ChosenWhereShared : Type 0
ChosenWhereShared = (ts : List Product) → (most_shared ts ≡ None) ↔ NoneIsShared ts

-- in common are the literals that stand in each of the products
abbrev pub CommonIsInEach : Type 0
CommonIsInEach = (l : Literal) (ts : List Product) → 0 < length ts → (stands l (common ts) ≡ true) ↔ All (λ t. stands l t ≡ true) ts

-- what is left of a product is its literals that are none of c
abbrev pub StrippedHasOthers : Type 0
StrippedHasOthers = (l : Literal) (c t : Product) → (stands l (stripped c t) ≡ true) ↔ ((stands l t ≡ true) × (stands l c ≡ false))

-- ---- the trees

-- no products have no trees
abbrev pub NoneOfNone : Type 0
NoneOfNone = (block : Leaf) (leaves : List Leaf) (levels : ℕ) → trees block leaves levels [] ≡ []

-- where no level is left, each product has its plain tree, in order
abbrev pub PlainWithoutLevel : Type 0
PlainWithoutLevel = (block : Leaf) (leaves : List Leaf) (ts : List Product) → trees block leaves 0 ts ≡ map (product_shape block leaves) ts

-- and where no literal stands in two of the products
abbrev pub PlainWhereNoneShared : Type 0
PlainWhereNoneShared = (block : Leaf) (leaves : List Leaf) (levels : ℕ) (ts : List Product) → NoneIsShared ts
    → trees block leaves levels ts ≡ map (product_shape block leaves) ts

-- else those that share the most shared literal come first: what they all have in common, round the trees of what is left of
-- them at one level less. Then come the trees of the others
abbrev pub GroupThenOthers : Type 0
GroupThenOthers = (block : Leaf) (leaves : List Leaf) (levels : ℕ) (l : Literal) (ts : List Product) → IsMostShared ts l
    → trees block leaves (levels + 1) ts
    ≡ group leaves (common (with_literal l ts)) (trees block leaves levels (map (stripped (common (with_literal l ts))) (with_literal l ts)))
    ∷ trees block leaves (levels + 1) (other_than l ts)
