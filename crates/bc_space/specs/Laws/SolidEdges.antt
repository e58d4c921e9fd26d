-- The edge law of space.
-- A proof, which an `impl` rests on: so it stands in specs/.
use Rattle.std.proofs.Common.{◌≡◌, ◌≢◌, ◌+◌, List, [], ◌∷◌, ◌++◌, length, Some, inl, inr, refl, arith}
use lib.IntN.{ℤ, pos, ◌+ℤ◌, ◌-ℤ◌, ◌*ℤ◌, neg_ℤ}
use Rattle.bc_algebra.proofs.Ring.{ring, quotes, by_one, by_two, by_three}
use Rattle.bc_hull.specs.Choices.{IsIn}
use Rattle.bc_hull.specs.Ways.{IsAlike, AreEdges}
use Rattle.bc_hull.proofs.Members.{all_in}
use Rattle.bc_hull.proofs.Values.{other_zero}
use Rattle.bc_num.specs.declared.p3.P3.{P3}
use Rattle.bc_num.specs.Points.{IsSamePoint3}
use Rattle.bc_num.proofs.Combining3.{reduced_same3}
use Rattle.bc_space.specs.declared.side.Side.TheVariants.{On}
use Rattle.bc_space.specs.declared.plane3.Plane3.{Plane3}
use Rattle.bc_space.specs.Planes.{plane_value, plane_side}
use Rattle.bc_space.specs.Laws.{EdgeLaw}
use Rattle.bc_space.specs.Laws.Signs.{on_value}
use Rattle.bc_space.specs.Laws.EdgesOfWays.{edge_law}
use Rattle.bc_space.specs.Flat.{some_normal}
use Rattle.bc_space.specs.Laws.FlatEdges.{alike_over}
use Rattle.bc_space.specs.Solid.{walls3, met3, determinant_of_rows, cramer3_x, cramer3_y, cramer3_z, determinant3}
use Rattle.bc_space.specs.Laws.SolidMeets.{over_none, solid_meet}
use Rattle.bc_space.specs.Laws.SolidWays.{Way3, slope3, move3, back3, IsSome3, Independent3, ways3}

-- planes with no way along both of the first two have no determinant
level_three : (a b c a' b' c' a'' b'' c'' : ℤ) → b *ℤ c' -ℤ c *ℤ b' ≡ pos 0 → c *ℤ a' -ℤ a *ℤ c' ≡ pos 0 → a *ℤ b' -ℤ b *ℤ a' ≡ pos 0 → determinant_of_rows a b c a' b' c' a'' b'' c'' ≡ pos 0
level_three a b c a' b' c' a'' b'' c'' ex ey ez = by_three a'' b'' c'' ex ey ez (ring (a ∷ b ∷ c ∷ a' ∷ b' ∷ c' ∷ a'' ∷ b'' ∷ c'' ∷ []) (search quotes depth 30) refl)

some_determinant : (g k h : Plane3) (c : P3) → met3 (g ∷ (k ∷ (h ∷ []))) ≡ Some c → determinant3 g k h ≢ pos 0
some_determinant g k h c e = over_none (cramer3_x g k h) (cramer3_y g k h) (cramer3_z g k h) (determinant3 g k h) c e

free3 : (gs : List Plane3) (h : Plane3) (c : P3) → length gs + 1 ≡ 3 → met3 (gs ++ h ∷ []) ≡ Some c → Independent3 gs
free3 [] h c many e = absurd (omega (arith, many))
free3 (g ∷ []) h c many e = absurd (omega (arith, many))
free3 (g ∷ (k ∷ [])) h c many e = λ ex ey ez. some_determinant g k h c e (level_three g.a g.b g.c k.a k.b k.c h.a h.b h.c ex ey ez)
free3 (g ∷ (k ∷ (l ∷ gs))) h c many e = absurd (omega (arith, many))

-- a way along three planes is none
module _ (a b c a' b' c' a'' b'' c'' x y z : ℤ) (e : a *ℤ x +ℤ b *ℤ y +ℤ c *ℤ z ≡ pos 0) (e' : a' *ℤ x +ℤ b' *ℤ y +ℤ c' *ℤ z ≡ pos 0) (e'' : a'' *ℤ x +ℤ b'' *ℤ y +ℤ c'' *ℤ z ≡ pos 0) where
  forced_x : determinant_of_rows a b c a' b' c' a'' b'' c'' *ℤ x ≡ pos 0
  forced_x = by_three (b' *ℤ c'' -ℤ c' *ℤ b'') (c *ℤ b'' -ℤ b *ℤ c'') (b *ℤ c' -ℤ c *ℤ b') e e' e'' (ring (a ∷ b ∷ c ∷ a' ∷ b' ∷ c' ∷ a'' ∷ b'' ∷ c'' ∷ x ∷ y ∷ z ∷ []) (search quotes depth 30) refl)

  forced_y : determinant_of_rows a b c a' b' c' a'' b'' c'' *ℤ y ≡ pos 0
  forced_y = by_three (c' *ℤ a'' -ℤ a' *ℤ c'') (a *ℤ c'' -ℤ c *ℤ a'') (c *ℤ a' -ℤ a *ℤ c') e e' e'' (ring (a ∷ b ∷ c ∷ a' ∷ b' ∷ c' ∷ a'' ∷ b'' ∷ c'' ∷ x ∷ y ∷ z ∷ []) (search quotes depth 30) refl)

  forced_z : determinant_of_rows a b c a' b' c' a'' b'' c'' *ℤ z ≡ pos 0
  forced_z = by_three (a' *ℤ b'' -ℤ b' *ℤ a'') (b *ℤ a'' -ℤ a *ℤ b'') (a *ℤ b' -ℤ b *ℤ a') e e' e'' (ring (a ∷ b ∷ c ∷ a' ∷ b' ∷ c' ∷ a'' ∷ b'' ∷ c'' ∷ x ∷ y ∷ z ∷ []) (search quotes depth 30) refl)

crosses3 : (gs : List Plane3) (h : Plane3) (c : P3) (u : Way3) → length gs + 1 ≡ 3 → met3 (gs ++ h ∷ []) ≡ Some c → IsSome3 u → ((g : Plane3) → IsIn g gs → slope3 g u ≡ pos 0) → slope3 h u ≢ pos 0
crosses3 [] h c u many e some level = absurd (omega (arith, many))
crosses3 (g ∷ []) h c u many e some level = absurd (omega (arith, many))
crosses3 (g ∷ (k ∷ (l ∷ gs))) h c u many e some level = absurd (omega (arith, many))
crosses3 (g ∷ (k ∷ [])) h c u many e some level = λ z.
    let off : determinant3 g k h ≢ pos 0 = some_determinant g k h c e in
    let eg : slope3 g u ≡ pos 0 = level g (inl refl) in
    let ek : slope3 k u ≡ pos 0 = level k (inr (inl refl)) in
    some (other_zero (determinant3 g k h) u.x off (forced_x g.a g.b g.c k.a k.b k.c h.a h.b h.c u.x u.y u.z eg ek z))
    (other_zero (determinant3 g k h) u.y off (forced_y g.a g.b g.c k.a k.b k.c h.a h.b h.c u.x u.y u.z eg ek z))
    (other_zero (determinant3 g k h) u.z off (forced_z g.a g.b g.c k.a k.b k.c h.a h.b h.c u.x u.y u.z eg ek z))

on3 : (hs : List Plane3) (c : P3) → met3 hs ≡ Some c → (h : Plane3) → IsIn h hs → plane_value h c ≡ pos 0
on3 hs c e h i = on_value (plane_value h c) (all_in (λ k. plane_side k c ≡ On) hs (solid_meet.on hs c e) h i)

-- the planes x = 0, y = 0, z = 0 and x = 1
abbrev across_x : Plane3
across_x = record { a = pos 1; b = pos 0; c = pos 0; d = pos 0; normal = some_normal }

abbrev across_y : Plane3
across_y = record { a = pos 0; b = pos 1; c = pos 0; d = pos 0; normal = some_normal }

abbrev across_z : Plane3
across_z = record { a = pos 0; b = pos 0; c = pos 1; d = pos 0; normal = some_normal }

abbrev beyond : Plane3
beyond = record { a = pos 1; b = pos 0; c = pos 0; d = pos 1; normal = some_normal }

module _ (m n x y z w x' y' z' w' : ℤ) where
  value_x : m *ℤ ((pos 1 *ℤ x +ℤ pos 0 *ℤ y +ℤ pos 0 *ℤ z) -ℤ pos 0 *ℤ w) ≡ n *ℤ ((pos 1 *ℤ x' +ℤ pos 0 *ℤ y' +ℤ pos 0 *ℤ z') -ℤ pos 0 *ℤ w') → m *ℤ x ≡ n *ℤ x'
  value_x e = by_one (pos 1) e (ring (m ∷ n ∷ x ∷ y ∷ z ∷ w ∷ x' ∷ y' ∷ z' ∷ w' ∷ []) (search quotes depth 30) refl)

  value_y : m *ℤ ((pos 0 *ℤ x +ℤ pos 1 *ℤ y +ℤ pos 0 *ℤ z) -ℤ pos 0 *ℤ w) ≡ n *ℤ ((pos 0 *ℤ x' +ℤ pos 1 *ℤ y' +ℤ pos 0 *ℤ z') -ℤ pos 0 *ℤ w') → m *ℤ y ≡ n *ℤ y'
  value_y e = by_one (pos 1) e (ring (m ∷ n ∷ x ∷ y ∷ z ∷ w ∷ x' ∷ y' ∷ z' ∷ w' ∷ []) (search quotes depth 30) refl)

  value_z : m *ℤ ((pos 0 *ℤ x +ℤ pos 0 *ℤ y +ℤ pos 1 *ℤ z) -ℤ pos 0 *ℤ w) ≡ n *ℤ ((pos 0 *ℤ x' +ℤ pos 0 *ℤ y' +ℤ pos 1 *ℤ z') -ℤ pos 0 *ℤ w') → m *ℤ z ≡ n *ℤ z'
  value_z e = by_one (pos 1) e (ring (m ∷ n ∷ x ∷ y ∷ z ∷ w ∷ x' ∷ y' ∷ z' ∷ w' ∷ []) (search quotes depth 30) refl)

  value_beyond : m *ℤ ((pos 1 *ℤ x +ℤ pos 0 *ℤ y +ℤ pos 0 *ℤ z) -ℤ pos 1 *ℤ w) ≡ n *ℤ ((pos 1 *ℤ x' +ℤ pos 0 *ℤ y' +ℤ pos 0 *ℤ z') -ℤ pos 1 *ℤ w') → m *ℤ x ≡ n *ℤ x' → m *ℤ w ≡ n *ℤ w'
  value_beyond e f = by_two (neg_ℤ (pos 1)) (pos 1) e f (ring (m ∷ n ∷ x ∷ y ∷ z ∷ w ∷ x' ∷ y' ∷ z' ∷ w' ∷ []) (search quotes depth 30) refl)

alike_same : (c d : P3) → IsAlike plane_value c d → IsSamePoint3 c d
alike_same c d a =
    let ex : a.m *ℤ d.x ≡ a.n *ℤ c.x = value_x a.m a.n d.x d.y d.z d.w c.x c.y c.z c.w (a.values across_x) in
    let ey : a.m *ℤ d.y ≡ a.n *ℤ c.y = value_y a.m a.n d.x d.y d.z d.w c.x c.y c.z c.w (a.values across_y) in
    let ez : a.m *ℤ d.z ≡ a.n *ℤ c.z = value_z a.m a.n d.x d.y d.z d.w c.x c.y c.z c.w (a.values across_z) in
    let ew : a.m *ℤ d.w ≡ a.n *ℤ c.w = value_beyond a.m a.n d.x d.y d.z d.w c.x c.y c.z c.w (a.values beyond) ex in
    record {
      along_x = alike_over a.m a.n c.x c.w d.x d.w a.m_positive ex ew;
      along_y = alike_over a.m a.n c.y c.w d.y d.w a.m_positive ey ew;
      along_z = alike_over a.m a.n c.z c.w d.z d.w a.m_positive ez ew;
    }

one3 : (gs hs : List Plane3) (c d : P3) → met3 gs ≡ Some c → met3 hs ≡ Some d → IsAlike plane_value c d → c ≡ d
one3 gs hs c d e f a = reduced_same3 c d (solid_meet.reduced gs c e) (solid_meet.reduced hs d f) (alike_same c d a)

edges3 : AreEdges plane_value met3 3 slope3 IsSome3 Independent3
edges3 = record { free = free3; crosses = crosses3; on = on3; one = one3 }

pub solid_edge : EdgeLaw plane_side met3 3 walls3
solid_edge = edge_law plane_value met3 3 walls3 slope3 move3 back3 IsSome3 Independent3 ways3 edges3
