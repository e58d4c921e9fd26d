-- The edge law of the plane.
-- A proof, which an `impl` rests on: so it stands in specs/.
use Rattle.std.proofs.Common.{◌≡◌, ◌≢◌, ◌+◌, List, [], ◌∷◌, ◌++◌, length, Some, inl, refl, arith}
use lib.IntN.{ℤ, pos, ◌+ℤ◌, ◌-ℤ◌, ◌*ℤ◌, neg_ℤ}
use lib.Signed.{◌<ℤ◌}
use Rattle.bc_algebra.proofs.Ring.{ring, quotes, by_one, by_two}
use Rattle.bc_algebra.proofs.Order.{cancel_eq}
use Rattle.bc_hull.specs.Choices.{IsIn}
use Rattle.bc_hull.specs.Ways.{IsAlike, AreEdges}
use Rattle.bc_hull.proofs.Members.{all_in}
use Rattle.bc_hull.proofs.Values.{other_zero}
use Rattle.bc_num.specs.declared.p2.P2.{P2}
use Rattle.bc_num.specs.Points.{IsSamePoint2}
use Rattle.bc_num.proofs.Combining.{reduced_same}
use Rattle.bc_space.specs.declared.side.Side.TheVariants.{On}
use Rattle.bc_space.specs.declared.line2.Line2.{Line2}
use Rattle.bc_space.specs.Lines.{line_value, line_side}
use Rattle.bc_space.specs.Laws.{EdgeLaw}
use Rattle.bc_space.specs.Laws.Signs.{on_value}
use Rattle.bc_space.specs.Laws.EdgesOfWays.{edge_law}
use Rattle.bc_space.specs.Flat.{some_normal, walls2, met2, cramer_x, cramer_y, determinant2}
use Rattle.bc_space.specs.Laws.FlatMeets.{over_none, flat_meet}
use Rattle.bc_space.specs.Laws.FlatWays.{Way2, slope2, move2, back2, IsSome2, Independent2, line_some, ways2}

free2 : (gs : List Line2) (h : Line2) (c : P2) → length gs + 1 ≡ 2 → met2 (gs ++ h ∷ []) ≡ Some c → Independent2 gs
free2 [] h c many e = absurd (omega (arith, many))
free2 (g ∷ []) h c many e = line_some g
free2 (g ∷ (k ∷ gs)) h c many e = absurd (omega (arith, many))

-- a way along both lines is none
forced_x : (a b a' b' x y : ℤ) → a *ℤ x +ℤ b *ℤ y ≡ pos 0 → a' *ℤ x +ℤ b' *ℤ y ≡ pos 0 → (a *ℤ b' -ℤ b *ℤ a') *ℤ x ≡ pos 0
forced_x a b a' b' x y e f = by_two b' (neg_ℤ b) e f (ring (a ∷ b ∷ a' ∷ b' ∷ x ∷ y ∷ []) (search quotes depth 30) refl)

forced_y : (a b a' b' x y : ℤ) → a *ℤ x +ℤ b *ℤ y ≡ pos 0 → a' *ℤ x +ℤ b' *ℤ y ≡ pos 0 → (a *ℤ b' -ℤ b *ℤ a') *ℤ y ≡ pos 0
forced_y a b a' b' x y e f = by_two (neg_ℤ a') a e f (ring (a ∷ b ∷ a' ∷ b' ∷ x ∷ y ∷ []) (search quotes depth 30) refl)

crosses2 : (gs : List Line2) (h : Line2) (c : P2) (u : Way2) → length gs + 1 ≡ 2 → met2 (gs ++ h ∷ []) ≡ Some c → IsSome2 u → ((g : Line2) → IsIn g gs → slope2 g u ≡ pos 0) → slope2 h u ≢ pos 0
crosses2 [] h c u many e some level = absurd (omega (arith, many))
crosses2 (g ∷ (k ∷ gs)) h c u many e some level = absurd (omega (arith, many))
crosses2 (g ∷ []) h c u many e some level = λ z.
    let off : determinant2 g h ≢ pos 0 = over_none (cramer_x g h) (cramer_y g h) (determinant2 g h) c e in
    let eg : slope2 g u ≡ pos 0 = level g (inl refl) in
    some (other_zero (determinant2 g h) u.x off (forced_x g.a g.b h.a h.b u.x u.y eg z)) (other_zero (determinant2 g h) u.y off (forced_y g.a g.b h.a h.b u.x u.y eg z))

on2 : (hs : List Line2) (c : P2) → met2 hs ≡ Some c → (h : Line2) → IsIn h hs → line_value h c ≡ pos 0
on2 hs c e h i = on_value (line_value h c) (all_in (λ k. line_side k c ≡ On) hs (flat_meet.on hs c e) h i)

-- the lines x = 0, y = 0 and x = 1
abbrev upright : Line2
upright = record { a = pos 1; b = pos 0; d = pos 0; normal = some_normal }

abbrev level : Line2
level = record { a = pos 0; b = pos 1; d = pos 0; normal = some_normal }

abbrev beyond : Line2
beyond = record { a = pos 1; b = pos 0; d = pos 1; normal = some_normal }

value_upright : (m n x y w x' y' w' : ℤ) → m *ℤ ((pos 1 *ℤ x +ℤ pos 0 *ℤ y) -ℤ pos 0 *ℤ w) ≡ n *ℤ ((pos 1 *ℤ x' +ℤ pos 0 *ℤ y') -ℤ pos 0 *ℤ w') → m *ℤ x ≡ n *ℤ x'
value_upright m n x y w x' y' w' e = by_one (pos 1) e (ring (m ∷ n ∷ x ∷ y ∷ w ∷ x' ∷ y' ∷ w' ∷ []) (search quotes depth 30) refl)

value_level : (m n x y w x' y' w' : ℤ) → m *ℤ ((pos 0 *ℤ x +ℤ pos 1 *ℤ y) -ℤ pos 0 *ℤ w) ≡ n *ℤ ((pos 0 *ℤ x' +ℤ pos 1 *ℤ y') -ℤ pos 0 *ℤ w') → m *ℤ y ≡ n *ℤ y'
value_level m n x y w x' y' w' e = by_one (pos 1) e (ring (m ∷ n ∷ x ∷ y ∷ w ∷ x' ∷ y' ∷ w' ∷ []) (search quotes depth 30) refl)

value_beyond : (m n x y w x' y' w' : ℤ) → m *ℤ ((pos 1 *ℤ x +ℤ pos 0 *ℤ y) -ℤ pos 1 *ℤ w) ≡ n *ℤ ((pos 1 *ℤ x' +ℤ pos 0 *ℤ y') -ℤ pos 1 *ℤ w') → m *ℤ x ≡ n *ℤ x' → m *ℤ w ≡ n *ℤ w'
value_beyond m n x y w x' y' w' e f = by_two (neg_ℤ (pos 1)) (pos 1) e f (ring (m ∷ n ∷ x ∷ y ∷ w ∷ x' ∷ y' ∷ w' ∷ []) (search quotes depth 30) refl)

-- numbers that are alike over denominators that are
pub alike_over : (m n x w x' w' : ℤ) → pos 0 <ℤ m → m *ℤ x' ≡ n *ℤ x → m *ℤ w' ≡ n *ℤ w → x *ℤ w' ≡ x' *ℤ w
alike_over m n x w x' w' positive ex ew =
    cancel_eq (x *ℤ w') (x' *ℤ w) m positive (by_two x (neg_ℤ w) ew ex (ring (m ∷ n ∷ x ∷ w ∷ x' ∷ w' ∷ []) (search quotes depth 30) refl))

alike_same : (c d : P2) → IsAlike line_value c d → IsSamePoint2 c d
alike_same c d a =
    let ex : a.m *ℤ d.x ≡ a.n *ℤ c.x = value_upright a.m a.n d.x d.y d.w c.x c.y c.w (a.values upright) in
    let ey : a.m *ℤ d.y ≡ a.n *ℤ c.y = value_level a.m a.n d.x d.y d.w c.x c.y c.w (a.values level) in
    let ew : a.m *ℤ d.w ≡ a.n *ℤ c.w = value_beyond a.m a.n d.x d.y d.w c.x c.y c.w (a.values beyond) ex in
    record { along_x = alike_over a.m a.n c.x c.w d.x d.w a.m_positive ex ew; along_y = alike_over a.m a.n c.y c.w d.y d.w a.m_positive ey ew }

one2 : (gs hs : List Line2) (c d : P2) → met2 gs ≡ Some c → met2 hs ≡ Some d → IsAlike line_value c d → c ≡ d
one2 gs hs c d e f a = reduced_same c d (flat_meet.reduced gs c e) (flat_meet.reduced hs d f) (alike_same c d a)

edges2 : AreEdges line_value met2 2 slope2 IsSome2 Independent2
edges2 = record { free = free2; crosses = crosses2; on = on2; one = one2 }

pub flat_edge : EdgeLaw line_side met2 2 walls2
flat_edge = edge_law line_value met2 2 walls2 slope2 move2 back2 IsSome2 Independent2 ways2 edges2
