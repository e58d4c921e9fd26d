-- Points on the boundaries of half-spaces, by tests.
use Rattle.std.specs.Prelude.{Bool, false, ◌||◌, List, [], ◌∷◌, pos, ◌*ℤ◌}
use Rattle.std.specs.Ordering.{int_eq}
use Rattle.bc_num.specs.declared.p2.P2.{P2}
use Rattle.bc_num.specs.Measures.{square_distance, turn}
use Rattle.bc_solid.specs.HalfSpaces.{HalfSpace2, Line, Disc}

-- p is on the boundary
abbrev pub is_on : HalfSpace2 → P2 → Bool
is_on (Line a b) p = int_eq (turn a b p) (pos 0)
is_on (Disc c r2) p = int_eq (square_distance c p) (r2 *ℤ (p.w *ℤ p.w))

-- p is on the boundary of one of them
abbrev pub is_on_any : List HalfSpace2 → P2 → Bool
is_on_any [] p = false
is_on_any (h ∷ hs) p = is_on h p || is_on_any hs p
