-- Which literals products have in common, and which literal stands in most of them. A literal is a half-space with its sign.
use Rattle.std.specs.Prelude.{ℕ, zero, suc, Bool, not, nat_eq, nat_lt, if◌then◌else◌, List, [], ◌∷◌, filter, Option, None, Some, count_by, bit_and, bit_xor}
use Rattle.std.specs.Int.{bit_at}
use Rattle.bc_cover.specs.Covers.{Literal, positive, negative}
use Rattle.bc_tree.specs.declared.product.Product.{Product}

-- whether the literal stands in the product
abbrev pub stands : Literal → Product → Bool
stands (positive i) t = nat_eq (bit_at t.pos i) 1
stands (negative i) t = nat_eq (bit_at t.neg i) 1

-- the literal's half-space
abbrev pub place : Literal → ℕ
place (positive i) = i
place (negative i) = i

-- in how many of the products it stands
abbrev pub count : Literal → List Product → ℕ
count l ts = count_by (stands l) ts

-- in how many the best literal stands; a first one has to stand in two at least
abbrev pub best_count : Option Literal → List Product → ℕ
best_count None ts = 1
best_count (Some l) ts = count l ts

-- the better of the best literal so far and a further one, the earlier of equals
abbrev pub better : List Product → Option Literal → Literal → Option Literal
better ts best l = if nat_lt (best_count best ts) (count l ts) then Some l else best

-- the literal over the first n half-spaces that stands in most products, if that are two at least: among equals the one with
-- the least half-space, and then the positive one
abbrev pub most_shared_below : ℕ → List Product → Option Literal
most_shared_below zero ts = None
most_shared_below (suc n) ts = better ts (better ts (most_shared_below n ts) (positive n)) (negative n)

-- a mask has 64 half-spaces
unfoldable pub most_shared : List Product → Option Literal
most_shared ts = most_shared_below 64 ts

-- what two products have in common
abbrev pub both : Product → Product → Product
both t u = record { pos = bit_and t.pos u.pos; neg = bit_and t.neg u.neg }

-- what a product and all of these have in common
abbrev pub common_with : Product → List Product → Product
common_with c [] = c
common_with c (t ∷ ts) = common_with (both c t) ts

-- the half-spaces that are positive in all of the products, and those that are negative in all
abbrev pub common : List Product → Product
common [] = record { pos = 0; neg = 0 }
common (t ∷ ts) = common_with t ts

-- the product without the literals of c
abbrev pub stripped : Product → Product → Product
stripped c t = record { pos = bit_xor t.pos (bit_and t.pos c.pos); neg = bit_xor t.neg (bit_and t.neg c.neg) }

-- the products in which the literal stands, and the others, each in order
abbrev pub with_literal : Literal → List Product → List Product
with_literal l ts = filter (stands l) ts

abbrev pub other_than : Literal → List Product → List Product
other_than l ts = filter (λ t. not (stands l t)) ts
