-- How many half-spaces an input may have, and the sizes of their numbers.
use Rattle.std.specs.Prelude.{◌≡◌, ◌≤◌, ◌<◌, List, length}
use Rattle.std.specs.List.{All}
use Rattle.bc_num.specs.declared.box2.Box2.{Box2}
use Rattle.bc_algebra.specs.Within.{IsWithin}
use Rattle.bc_num.specs.Sizes.{AreCoords}
use Rattle.bc_space.specs.Lines.{IsSizedLine}
use Rattle.bc_space.specs.Discs.{IsSizedDisc}
use Rattle.bc_solid.specs.declared.element.Element.{Element}
use Rattle.bc_natural.specs.Curves.{Curves, AreCurves}
use Rattle.bc_natural.specs.declared.limits.TheConstants.{MOST_LINES, MOST_DISCS}
use Rattle.bc_natural.specs.declared.nat_fault.NatFault.{NatFault}
use Rattle.bc_natural.specs.declared.nat_fault.NatFault.TheVariants.{TooManyPlanes, TooManyLines, TooManyDiscs, Memory}

-- the numbers are of the sizes that sides take
pub record AreSized (t : Curves) : Type 0 where
  pub lines : All (λ e. IsSizedLine e.0) t.lines
  pub origins : All (λ e. AreCoords e.1) t.lines
  pub discs : All IsSizedDisc t.discs

pub record AreFew (t : Curves) : Type 0 where
  pub lines : length t.lines ≤ MOST_LINES
  pub discs : length t.discs ≤ MOST_DISCS

-- the first limit that the elements pass, with their number; or there was no memory
abbrev pub IsLimitFault : List Element → NatFault → Type 0
IsLimitFault es (TooManyPlanes n) = ⊥
IsLimitFault es (TooManyLines n) = (t : Curves) × AreCurves es t × (length t.lines ≡ n) × (MOST_LINES < n)
IsLimitFault es (TooManyDiscs n) = (t : Curves) × AreCurves es t × (length t.lines ≤ MOST_LINES) × (length t.discs ≡ n) × (MOST_DISCS < n)
IsLimitFault es Memory = Unit {0}

-- the elements pass no limit
abbrev pub IsWithinLimits : List Element → Type 0
IsWithinLimits es = (t : Curves) × AreCurves es t × AreFew t

-- each number is at most 3918 in size: 1023, the reach of the largest circle, and 1
pub record IsNearBox (b : Box2) : Type 0 where
  pub x0_near : IsWithin 3918 b.x0
  pub y0_near : IsWithin 3918 b.y0
  pub x1_near : IsWithin 3918 b.x1
  pub y1_near : IsWithin 3918 b.y1
