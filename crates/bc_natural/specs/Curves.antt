-- The half-planes and discs of contours, each once: the canonical lines of edges and chords in the order of the elements,
-- each with the start of the first element that has it as origin, and behind them the discs of the arcs.
use Rattle.std.specs.Prelude.{◌≡◌, Bool, true, false, not, ◌&&◌, List, map, filter}
use Rattle.std.specs.List.{AllZip}
use Rattle.std.specs.Ordering.{int_eq}
use Rattle.bc_num.specs.declared.v2.V2.{V2}
use Rattle.bc_num.specs.declared.disc2.Disc2.{Disc2}
use Rattle.bc_num.specs.Measures.{square_between, is_same}
use Rattle.bc_space.specs.declared.line2.Line2.{Line2}
use Rattle.bc_space.specs.LinesThrough.{IsLineThrough}
use Rattle.bc_solid.specs.declared.element.Element.{Element}
use Rattle.bc_solid.specs.declared.element.Element.TheVariants.{Edge, Arc}
use Rattle.bc_solid.specs.Closed.{start_of, end_of}
use Rattle.bc_natural.specs.Distinct.{distinct}

-- the table: lines with their origins, and discs
pub record Curves : Type 0 where
  pub lines : List (Line2 × V2)
  pub discs : List Disc2

abbrev pub lines_of : Curves → List Line2
lines_of t = map (λ e. e.0) t.lines

-- ---- the lines and discs of elements

-- an edge has the line through its ends, and an arc that is no full circle that of its chord
abbrev pub has_line : Element → Bool
has_line e = not (is_same (start_of e) (end_of e))

-- the canonical line through the element's ends, and its start
pub record IsLineOf (e : Element) (entry : Line2 × V2) : Type 0 where
  pub line : IsLineThrough (start_of e) (end_of e) entry.0
  pub origin : entry.1 ≡ start_of e

abbrev pub is_arc : Element → Bool
is_arc (Edge a b) = false
is_arc (Arc a b c ccw) = true

-- the disc of an arc
abbrev pub IsDiscOf : Element → Disc2 → Type 0
IsDiscOf (Edge a b) d = ⊥
IsDiscOf (Arc a b c ccw) d = (d.c ≡ c) × (d.r2 ≡ square_between c a)

-- ---- each once

abbrev pub is_same_line : Line2 → Line2 → Bool
is_same_line g h = int_eq g.a h.a && (int_eq g.b h.b && int_eq g.d h.d)

abbrev pub is_same_disc : Disc2 → Disc2 → Bool
is_same_disc d e = is_same d.c e.c && int_eq d.r2 e.r2

-- the table of the elements
pub record AreCurves (es : List Element) (t : Curves) : Type 0 where
  -- the lines of all elements that have one, and the discs of all arcs
  pub found : List (Line2 × V2)
  pub seen : List Disc2
  pub of_lines : AllZip IsLineOf (filter has_line es) found
  pub of_discs : AllZip IsDiscOf (filter is_arc es) seen
  pub lines : t.lines ≡ distinct (λ g h. is_same_line g.0 h.0) found
  pub discs : t.discs ≡ distinct is_same_disc seen
