-- What one more element adds to a table: its line, then its disc, each unless it is there.
use Rattle.std.specs.Prelude.{◌≡◌, ◌⊎◌, Bool, true, false, List, [], ◌∷◌, ◌++◌, if◌then◌else◌}
use Rattle.std.specs.List.{list_any}
use Rattle.bc_num.specs.declared.v2.V2.{V2}
use Rattle.bc_num.specs.declared.disc2.Disc2.{Disc2}
use Rattle.bc_num.specs.Measures.{square_between, is_same}
use Rattle.bc_space.specs.declared.line2.Line2.{Line2}
use Rattle.bc_space.specs.LinesThrough.{IsLineThrough}
use Rattle.bc_solid.specs.declared.element.Element.{Element}
use Rattle.bc_solid.specs.declared.element.Element.TheVariants.{Edge, Arc}
use Rattle.bc_natural.specs.Curves.{Curves, is_same_line, is_same_disc}

-- the list with x at its end, unless it has one that is the same
abbrev pub with_new : {X : Type 0} → (X → X → Bool) → List X → X → List X
with_new same seen x = if list_any (same x) seen then seen else seen ++ x ∷ []

-- the table `new` is `old` with the line through a and b at its end, with a as origin, unless `old` has that line
pub record AddsLineOf (a b : V2) (old new : Curves) : Type 0 where
  pub line : Line2
  pub through : IsLineThrough a b line
  pub lines : new.lines ≡ with_new (λ g h. is_same_line g.0 h.0) old.lines (line, a)
  pub discs : new.discs ≡ old.discs

-- the same where a and b differ, and else the table stays
abbrev pub AddsLine : V2 → V2 → Curves → Curves → Type 0
AddsLine a b old new = ((is_same a b ≡ true) × (new ≡ old)) ⊎ ((is_same a b ≡ false) × AddsLineOf a b old new)

-- the table `new` is `old` with the disc round c through a at its end, unless `old` has that disc
pub record AddsDisc (a c : V2) (old new : Curves) : Type 0 where
  pub disc : Disc2
  pub centre : disc.c ≡ c
  pub radius : disc.r2 ≡ square_between c a
  pub lines : new.lines ≡ old.lines
  pub discs : new.discs ≡ with_new is_same_disc old.discs disc

-- the element's line, and behind it the disc of an arc
abbrev pub Adds : Element → Curves → Curves → Type 0
Adds (Edge a b) old new = AddsLine a b old new
Adds (Arc a b c ccw) old new = (t : Curves) × AddsLine a b old t × AddsDisc a c t new
