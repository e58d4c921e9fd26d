-- On which sides of a table's half-spaces a point is.
use Rattle.std.specs.Prelude.{◌≢◌, ℕ, ◌+◌, ◌*◌, ◌^◌, length}
use Rattle.std.specs.List.{All}
use Rattle.bc_num.specs.declared.p2.P2.{P2}
use Rattle.bc_space.specs.declared.side.Side.TheVariants.{On}
use Rattle.bc_space.specs.Lines.{line_side}
use Rattle.bc_space.specs.Discs.{disc_side}
use Rattle.bc_space.specs.Regions.{mask_of}
use Rattle.bc_natural.specs.Curves.{Curves, lines_of}

-- p is on none of the lines, and on none of the circles
pub record IsClear (t : Curves) (p : P2) : Type 0 where
  pub lines : All (λ l. line_side l p ≢ On) (lines_of t)
  pub discs : All (λ d. disc_side d p ≢ On) t.discs

-- bit i is set where p is Above line i; the lines are followed by the discs
abbrev pub curve_mask : Curves → P2 → ℕ
curve_mask t p = mask_of line_side (lines_of t) p + 2 ^ length t.lines * mask_of disc_side t.discs p
