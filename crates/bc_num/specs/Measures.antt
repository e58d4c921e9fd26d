-- Measures of the plane that lines, circles and crossings are spoken of with, each over the denominators of its points.
use Rattle.std.specs.Prelude.{Bool, ◌&&◌, ℤ, ◌+ℤ◌, ◌-ℤ◌, ◌*ℤ◌}
use Rattle.std.specs.Ordering.{int_eq}
use Rattle.bc_num.specs.declared.v2.V2.{V2}
use Rattle.bc_num.specs.declared.p2.P2.{P2}

-- from c to p along x, times p.w
abbrev pub across : V2 → P2 → ℤ
across c p = p.x -ℤ c.x *ℤ p.w

-- from c to p along y, times p.w
abbrev pub up : V2 → P2 → ℤ
up c p = p.y -ℤ c.y *ℤ p.w

-- the squared distance from c to p, times p.w squared
abbrev pub square_distance : V2 → P2 → ℤ
square_distance c p = across c p *ℤ across c p +ℤ up c p *ℤ up c p

-- the squared distance of two places
abbrev pub square_between : V2 → V2 → ℤ
square_between a b = (b.x -ℤ a.x) *ℤ (b.x -ℤ a.x) +ℤ (b.y -ℤ a.y) *ℤ (b.y -ℤ a.y)

-- twice the area of a, b, p, times p.w: above 0 where p is left of the directed line from a to b, below 0 where it is
-- right of it, 0 where it is on it
abbrev pub turn : V2 → V2 → P2 → ℤ
turn a b p = (b.x -ℤ a.x) *ℤ up a p -ℤ (b.y -ℤ a.y) *ℤ across a p

-- a and b are the same place
abbrev pub is_same : V2 → V2 → Bool
is_same a b = int_eq a.x b.x && int_eq a.y b.y
