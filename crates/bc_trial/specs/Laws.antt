-- What holds of the generated texts: each is of its grammar, closed, and within the limits of a conversion.
use Rattle.std.specs.Prelude.{◌≡◌, ◌≤◌, ◌^◌, ℕ, List, length}
use Rattle.std.specs.List.{All}
use Rattle.bc_solid.specs.declared.element.Element.{Element}
use Rattle.bc_solid.specs.Closed.{AreClosed, joined}
use Rattle.bc_solid.specs.Meshes.{Mesh, faces_of}
use Rattle.bc_solid.specs.Facets.{Facet, outlines, IsFacet, IsClosedMesh}
use Rattle.bc_off.specs.Off.{Off}
use Rattle.bc_gcode.specs.Gcode.{Gcode}
use Rattle.bc_natural.specs.Planes.{Planes, ArePlanes, ArePlanesFew}
use Rattle.bc_natural.specs.Curves.{Curves, AreCurves}
use Rattle.bc_natural.specs.Limits.{AreFew}
use Rattle.bc_trial.specs.declared.off.TheConstants.{MOST_OFF}
use Rattle.bc_trial.specs.declared.contour.TheConstants.{MOST_CONTOUR}
use Rattle.bc_trial.specs.Texts.{off_text, contour_text}

-- the text says a closed mesh with few planes, and is not too long
pub record IsMeshInput (bytes : List ℕ) : Type 0 where
  pub short : length bytes ≤ 2 ^ 20
  pub mesh : Mesh
  pub read : Off bytes mesh
  pub closed : IsClosedMesh (faces_of mesh)
  pub few : (fs : List Facet) (t : Planes) → outlines fs ≡ faces_of mesh → All IsFacet fs → ArePlanes fs t → ArePlanesFew t

-- the text leads to closed contours with few lines and discs, and is not too long
pub record IsContourInput (bytes : List ℕ) : Type 0 where
  pub short : length bytes ≤ 2 ^ 20
  pub contours : List (List Element)
  pub read : Gcode bytes contours
  pub closed : AreClosed contours
  pub few : (t : Curves) → AreCurves (joined contours) t → AreFew t

abbrev pub StairsAreInputs : Type 0
StairsAreInputs = (n : ℕ) → 1 ≤ n → n ≤ MOST_OFF → IsMeshInput (off_text n)

abbrev pub PlatesAreInputs : Type 0
PlatesAreInputs = (n : ℕ) → 1 ≤ n → n ≤ MOST_CONTOUR → IsContourInput (contour_text n)
