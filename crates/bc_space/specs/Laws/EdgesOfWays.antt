-- The edge law of any space whose sides are the signs of values, from the ends of an edge.
-- A proof, which an `impl` rests on: so it stands in specs/.
use Rattle.std.proofs.Common.{◌≡◌, ◌≢◌, ℕ, ◌+◌, List, [], ◌∷◌, ◌++◌, length, Option, Some, ◌⊎◌, inl, inr}
use Rattle.std.proofs.Common.{arith}
use Rattle.std.proofs.lemmas.Int.{ints}
use lib.IntN.{ℤ, pos, negsuc}
use Rattle.bc_space.specs.declared.side.Side.{Side}
use Rattle.bc_space.specs.declared.side.Side.TheVariants.{Below, On, Above}
use Rattle.bc_hull.specs.Choices.{IsPart}
use Rattle.bc_space.specs.Regions.{IsFree, IsInRegion, IsCorner, IsEnd}
use Rattle.bc_space.specs.Laws.{EdgeLaw}
use Rattle.bc_hull.specs.Ways.{AreWays, AreEdges}
use Rattle.bc_hull.proofs.Members.{in_all}
use Rattle.bc_hull.proofs.Edge.{End, end}
use Rattle.bc_space.specs.Laws.Signs.{value_above, value_below, zero_value}
use Rattle.bc_space.specs.Laws.HullOfWays.{side_by, walls_high, all_off, to_products, of_products}

one_some : pos 1 ≢ pos 0
one_some e = absurd (omega (arith, ints, e))

minus_some : negsuc 0 ≢ pos 0
minus_some e = absurd (omega (arith, ints, e))

module _ {P H B U : Type 0} (value : H → P → ℤ) (met : List H → Option P) (dimension : ℕ) (walls : B → List H) (slope : H → U → ℤ) (move : P → ℕ → ℕ → U → P) (back : U → U) (some : U → Type 0) (independent : List H → Type 0)
    (ways : AreWays value met dimension walls slope move back some independent) (edges : AreEdges value met dimension slope some independent) where
  one_end : (b : B) (hs : List H) (q c : P) (s : ℤ) (h : H) (gs : List H) → s ≢ pos 0 → IsFree (side_by value) (walls b) hs q → IsInRegion (side_by value) (walls b) hs q c → IsPart gs (walls b ++ hs) → length gs + 1 ≡ dimension → met (gs ++ h ∷ []) ≡ Some c
      → IsCorner (side_by value) met dimension (walls b) hs q c ⊎ End value met dimension (walls b ++ hs) q s h gs
  one_end b hs q c s h gs sided free region part many e =
      elim (end value met dimension walls slope move back some independent ways edges b hs q c s h gs sided (walls_high value (walls b) hs q free) (all_off value (walls b) hs q free) (to_products value (walls b) hs q free c region) part many e) [
        | inl m ↦ inl (record { meet = m; region = region })
        | inr t ↦ inr t
      ]

  -- what an end is, where its side is known
  is_end : (b : B) (hs : List H) (q : P) (s : ℤ) (h : H) (gs : List H) (t : Side) → IsFree (side_by value) (walls b) hs q → (n : End value met dimension (walls b ++ hs) q s h gs) → side_by value h n.at ≡ t
      → IsEnd (side_by value) met dimension (walls b) hs q h gs t n.at
  is_end b hs q s h gs t free n at = record {
    corner = record { meet = n.meet; region = of_products value (walls b) hs q free n.at n.inside };
    at = at;
    on = in_all (λ g. side_by value g n.at ≡ On) gs (λ g i. zero_value (value g n.at) (n.on g i));
  }

  pub edge_law : EdgeLaw (side_by value) met dimension walls
  edge_law = record {
    ends = λ b hs q c h gs free region part many e.
        elim (one_end b hs q c (pos 1) h gs one_some free region part many e) [
          | inl k ↦ inl k
          | inr high ↦ elim (one_end b hs q c (negsuc 0) h gs minus_some free region part many e) [
            | inl k ↦ inl k
            | inr low ↦ inr (
              (high.at, is_end b hs q (pos 1) h gs Above free high (value_above (value h high.at) high.above)),
              (low.at, is_end b hs q (negsuc 0) h gs Below free low (value_below (value h low.at) low.above)),
            )
          ]
        ];
  }
