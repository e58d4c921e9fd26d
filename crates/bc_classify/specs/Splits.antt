-- The candidates in two lists, inside and outside.
use Rattle.std.specs.Prelude.{◌≡◌, ◌≢◌, not, List, map, filter}
use Rattle.std.specs.List.{All}
use Rattle.bc_num.specs.declared.p2.P2.{P2}
use Rattle.bc_num.specs.Sizes.{IsSmallPoint}
use Rattle.bc_space.specs.declared.side.Side.TheVariants.{On}
use Rattle.bc_space.specs.Lines.{line_side}
use Rattle.bc_space.specs.Regions.{mask_of}
use Rattle.bc_solid.specs.declared.element.Element.{Element}
use Rattle.bc_solid.specs.HalfSpaces.{IsOff}
use Rattle.bc_parity.specs.Odd.{is_odd_at}
use Rattle.bc_natural.specs.Curves.{Curves, lines_of}
use Rattle.bc_natural.specs.Masks.{curve_mask}
use Rattle.bc_discs.specs.Candidates.{Region}
use Rattle.bc_discs.specs.declared.candidate.Candidate.{Candidate}
use Rattle.bc_classify.specs.declared.split2.Marked2.{Marked2}
use Rattle.bc_classify.specs.declared.split2.Split2.{Split2}
use Rattle.bc_classify.specs.OddMasks.{is_odd_mask, is_odd_candidate}

-- the candidate's mask, and the sample that shows it
abbrev pub marked : Candidate → Marked2
marked c = record { mask = c.mask; seen = c.seen }

-- each candidate is in one of the lists, in order: inside where its mask is odd
pub record IsSplit (es : List Element) (t : Curves) (regions : List Region) (all : List Candidate) (s : Split2) : Type 0 where
  pub inside : s.inside ≡ map marked (filter (is_odd_candidate es t regions) all)
  pub outside : s.outside ≡ map marked (filter (λ c. not (is_odd_candidate es t regions c)) all)

-- a region's inner point is on no line, and small
pub record HasInnerPoint (t : Curves) (region : Region) : Type 0 where
  pub off : All (λ l. line_side l region.inner ≢ On) (lines_of t)
  pub small : IsSmallPoint region.inner

-- a free point is odd exactly where its mask is, at any point q of its region
abbrev pub OddMaskLaw : List Element → Curves → Type 0
OddMaskLaw es t = (p q : P2) → IsOff es p → All (λ l. line_side l q ≢ On) (lines_of t)
    → mask_of line_side (lines_of t) q ≡ mask_of line_side (lines_of t) p
    → is_odd_at es p ≡ is_odd_mask es t q (curve_mask t p)
