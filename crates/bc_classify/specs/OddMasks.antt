-- Which candidates are inside: by the parity of the chords in the region, flipped for the discs of the set.
use Rattle.std.specs.Prelude.{ℕ, ◌+◌, Bool, false, ◌&&◌, ◌||◌, nat_eq, ℤ, List, [], ◌∷◌, length, if◌then◌else◌, Option, None, Some, slice_get}
use Rattle.std.specs.Int.{bit_at}
use Rattle.std.specs.Ordering.{int_eq}
use Rattle.bc_num.specs.declared.v2.V2.{V2}
use Rattle.bc_num.specs.declared.p2.P2.{P2}
use Rattle.bc_num.specs.declared.disc2.Disc2.{Disc2}
use Rattle.bc_num.specs.Measures.{square_between, is_same}
use Rattle.bc_solid.specs.declared.element.Element.{Element}
use Rattle.bc_solid.specs.declared.element.Element.TheVariants.{Edge, Arc}
use Rattle.bc_parity.specs.Parity.{xor}
use Rattle.bc_parity.specs.Sums.{odd}
use Rattle.bc_parity.specs.Sides.{is_on_arc_side}
use Rattle.bc_parity.specs.ChordLaw.{arc_of}
use Rattle.bc_parity.specs.StraightOdd.{is_straight_odd_at}
use Rattle.bc_natural.specs.Curves.{Curves}
use Rattle.bc_discs.specs.Candidates.{Region}
use Rattle.bc_discs.specs.declared.candidate.Candidate.{Candidate}

-- the disc with this centre and squared radius is in the set: of discs of which the first has bit i of the mask
abbrev pub has_disc : ℕ → ℕ → List Disc2 → V2 → ℤ → Bool
has_disc mask i [] c r2 = false
has_disc mask i (d ∷ ds) c r2 = if is_same d.c c && int_eq d.r2 r2 then nat_eq (bit_at mask i) 1 else has_disc mask (i + 1) ds c r2

-- the element flips the parity at q: its disc is in the mask's set, and it is a full circle, or q is on the arc's side of
-- its chord
abbrev pub flips : Curves → P2 → ℕ → Element → Bool
flips t q mask (Edge a b) = false
flips t q mask (Arc a b c ccw) = has_disc mask (length t.lines) t.discs c (square_between c a) && (is_same a b || is_on_arc_side (arc_of a b c ccw) q)

-- the mask is odd, q being a point of its region
abbrev pub is_odd_mask : List Element → Curves → P2 → ℕ → Bool
is_odd_mask es t q mask = xor (is_straight_odd_at es q) (odd (flips t q mask) es)

abbrev pub is_odd_in : List Element → Curves → ℕ → Option Region → Bool
is_odd_in es t mask None = false
is_odd_in es t mask (Some region) = is_odd_mask es t region.inner mask

-- the mask of the candidate is odd
abbrev pub is_odd_candidate : List Element → Curves → List Region → Candidate → Bool
is_odd_candidate es t regions c = is_odd_in es t c.mask (slice_get regions c.region)
