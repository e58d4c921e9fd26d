-- What holds of every text: at most one list of contours, which are closed, and not both contours and a fault.
use Rattle.std.specs.Prelude.{◌≡◌, ◌≤◌, ℕ, true, List, length, All, Result, Ok}
use Rattle.std.specs.List.{list_all}
use Rattle.bc_solid.specs.declared.element.Element.{Element}
use Rattle.bc_solid.specs.Closed.{IsContour, joined}
use Rattle.bc_solid.specs.Contours.{is_drawn}
use Rattle.bc_gcode.specs.declared.fault.GFault.{GFault}
use Rattle.bc_gcode.specs.Gcode.{contours_of, Gcode, FirstFault}

-- closed contours within the range of coordinates, of 512 elements at most in all
pub record AreContours (cs : List (List Element)) : Type 0 where
  pub closed : All IsContour cs
  pub drawn : list_all is_drawn (joined cs) ≡ true
  pub few : length (joined cs) ≤ 512

-- where an end gives contours, they are so
abbrev pub EndsWell : Result (List (List Element)) GFault → Type 0
EndsWell r = (cs : List (List Element)) → r ≡ Ok cs → AreContours cs

abbrev pub ReadAreContours : Type 0
ReadAreContours = (text : List ℕ) → EndsWell (contours_of text)

-- a text has at most one list of contours
abbrev pub HasOneReading : Type 0
HasOneReading = (text : List ℕ) (cs ds : List (List Element)) → Gcode text cs → Gcode text ds → cs ≡ ds

-- a text has at most one first fault, and none where it has contours
abbrev pub HasOneFault : Type 0
HasOneFault = (text : List ℕ) (f g : GFault) → FirstFault text f → FirstFault text g → f ≡ g

abbrev pub HasNoBoth : Type 0
HasNoBoth = (text : List ℕ) (cs : List (List Element)) (f : GFault) → Gcode text cs → FirstFault text f → ⊥
