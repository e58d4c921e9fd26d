-- The ray and part of a circle from one place to another, counter-clockwise.
use Rattle.std.specs.Prelude.{Bool, ◌&&◌}
use Rattle.bc_num.specs.declared.v2.V2.{V2}
use Rattle.bc_num.specs.declared.p2.P2.{P2}
use Rattle.bc_parity.specs.Parity.{xor}
use Rattle.bc_parity.specs.Crossings.{Arc, meets_circle, has_upper, has_lower, is_above_upper, is_above_lower}

-- on the circle of `arc` the ray crosses the part from s to e once, and not twice
abbrev pub is_odd_between : Arc → V2 → V2 → P2 → Bool
is_odd_between arc s e p =
    xor (meets_circle arc p && (has_upper arc s e p && is_above_upper arc p)) (meets_circle arc p && (has_lower arc s e p && is_above_lower arc p))
