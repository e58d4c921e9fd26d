-- The line that is put to the notes on every status but Done.
use Rattle.std.specs.Prelude.{◌⊎◌, ℕ, ℤ, zero, suc, List, [], ◌++◌, Option, codes}
use Rattle.std.specs.Fmt.{decimal, signed_decimal}
use Rattle.std.specs.Io.KnownBytes.{Appends, Keeps}
use Rattle.bc_io.specs.Causes.{Rose}
use Rattle.bc_io.specs.Pieces.{AppendsFront}
use Rattle.bc_num.specs.declared.v2.V2.{V2}
use Rattle.bc_num.specs.declared.v3.V3.{V3}
use Rattle.bc_solid.specs.declared.contour_fault.ContourFault.{ContourFault}
use Rattle.bc_solid.specs.declared.contour_fault.ContourFault.TheVariants as closing
use Rattle.bc_solid.specs.declared.mesh_fault.MeshFault.{MeshFault}
use Rattle.bc_solid.specs.declared.mesh_fault.MeshFault.TheVariants as mesh
use Rattle.bc_off.specs.declared.fault.OffFault.{OffFault}
use Rattle.bc_off.specs.declared.fault.OffFault.TheVariants as words
use Rattle.bc_gcode.specs.declared.fault.GFault.{GFault}
use Rattle.bc_gcode.specs.declared.fault.GFault.TheVariants as grammar
use Rattle.bc_natural.specs.declared.nat_fault.NatFault.{NatFault}
use Rattle.bc_natural.specs.declared.nat_fault.NatFault.TheVariants as limits
use Rattle.bc_read.specs.declared.fault.CsgFault.{CsgFault}
use Rattle.bc_read.specs.declared.fault.CsgFault.TheVariants as reading
use Rattle.bc_prism.specs.declared.fault.LayerFault.{LayerFault}
use Rattle.bc_prism.specs.declared.fault.LayerFault.TheVariants as layers
use Rattle.bc_status.specs.declared.parts.PartFault.{PartFault}
use Rattle.bc_status.specs.declared.parts.PartFault.TheVariants as part
use Rattle.bc_status.specs.declared.parts.InnerFault.{InnerFault}
use Rattle.bc_status.specs.declared.parts.InnerFault.TheVariants as inner
use Rattle.bc_status.specs.declared.status.Refusal.{Refusal}
use Rattle.bc_status.specs.declared.status.Refusal.TheVariants.{PointTooFine, PointOffPlane, TooLong, Off, G, Mesh, Contour, Limit, Csg, NoPart, PartTooLong, Second, NotSolid, OtherBox, Layer, InLayer}
use Rattle.bc_status.specs.declared.status.Status.{Status}
use Rattle.bc_status.specs.declared.status.Status.TheVariants.{Done, Refused, Usage, ReadFault, WriteFault, Memory}

-- ---- names with a place or a number

abbrev pub at_line : List ℕ → ℕ → List ℕ
at_line name line = name ++ (codes " line " ++ decimal line)

-- a fault whose word is 0 prints no word
abbrev pub at_word : List ℕ → ℕ → ℕ → List ℕ
at_word name line zero = at_line name line
at_word name line (suc word) = at_line name line ++ (codes " word " ++ decimal (suc word))

abbrev pub at_token : List ℕ → ℕ → ℕ → List ℕ
at_token name line token = at_line name line ++ (codes " token " ++ decimal token)

abbrev pub at_face : List ℕ → ℕ → List ℕ
at_face name face = name ++ (codes " face " ++ decimal face)

abbrev pub at_place : List ℕ → ℕ → ℕ → List ℕ
at_place name face place = at_face name face ++ (codes " place " ++ decimal place)

abbrev pub counted : List ℕ → ℕ → List ℕ
counted name n = name ++ (codes " " ++ decimal n)

-- ---- what is said of each fault

abbrev pub open_words : ℕ → V2 → V2 → List ℕ
open_words line a b =
    at_line (codes "OpenContour") line ++ ((codes " from " ++ signed_decimal a.x) ++ ((codes " " ++ signed_decimal a.y)
    ++ ((codes " to " ++ signed_decimal b.x) ++ (codes " " ++ signed_decimal b.y))))

abbrev pub of_grammar : GFault → List ℕ
of_grammar (grammar.BadWord line word) = at_word (codes "BadWord") line word
of_grammar (grammar.UnknownWord line word) = at_word (codes "UnknownWord") line word
of_grammar (grammar.Incremental line word) = at_word (codes "Incremental") line word
of_grammar (grammar.TwinWord line word) = at_word (codes "TwinWord") line word
of_grammar (grammar.NotWhole line word) = at_word (codes "NotWhole") line word
of_grammar (grammar.TooFar line word) = at_word (codes "TooFar") line word
of_grammar (grammar.ThreeAxis line) = at_line (codes "ThreeAxis") line
of_grammar (grammar.MissingMotion line) = at_line (codes "MissingMotion") line
of_grammar (grammar.MissingCentre line) = at_line (codes "MissingCentre") line
of_grammar (grammar.OpenContour line a b) = open_words line a b
of_grammar (grammar.TooMany line) = at_line (codes "TooMany") line
-- never refused
of_grammar grammar.Memory = codes "Memory"

abbrev pub of_text : OffFault → List ℕ
of_text (words.NotOff line word) = at_word (codes "NotOff") line word
of_text (words.BadCount line word) = at_word (codes "BadCount") line word
of_text (words.Short line word) = at_word (codes "Short") line word
of_text (words.BadWord line word) = at_word (codes "BadWord") line word
of_text (words.NotWhole line word) = at_word (codes "NotWhole") line word
of_text (words.TooFar line word) = at_word (codes "TooFar") line word
of_text (words.BadIndex line word) = at_word (codes "BadIndex") line word
of_text (words.ShortFace line word) = at_word (codes "ShortFace") line word
of_text (words.TooMany line word) = at_word (codes "TooMany") line word
of_text (words.Extra line word) = at_word (codes "Extra") line word
of_text words.Memory = codes "Memory"

-- the three coordinates of a corner, each with a blank before it
abbrev pub corner_words : V3 → List ℕ
corner_words v = (codes " " ++ signed_decimal v.x) ++ ((codes " " ++ signed_decimal v.y) ++ (codes " " ++ signed_decimal v.z))

abbrev pub edge_words : V3 → V3 → ℕ → List ℕ
edge_words a b n = codes "OddEdge" ++ (corner_words a ++ (corner_words b ++ (codes " count " ++ decimal n)))

abbrev pub of_mesh : MeshFault → List ℕ
of_mesh (mesh.TwinCorner face place) = at_place (codes "TwinCorner") face place
of_mesh (mesh.FlatFace face) = at_face (codes "FlatFace") face
of_mesh (mesh.BentFace face place) = at_place (codes "BentFace") face place
of_mesh (mesh.OddEdge a b count) = edge_words a b count
of_mesh mesh.Memory = codes "Memory"

abbrev pub skew_words : ℕ → ℤ → ℤ → List ℕ
skew_words at start2 end2 =
    codes "SkewArc" ++ ((codes " element " ++ decimal at) ++ ((codes " start2 " ++ signed_decimal start2) ++ (codes " end2 " ++ signed_decimal end2)))

abbrev pub of_contours : ContourFault → List ℕ
of_contours (closing.ZeroRadius at) = codes "ZeroRadius" ++ (codes " element " ++ decimal at)
of_contours (closing.SkewArc at start2 end2) = skew_words at start2 end2
of_contours closing.Memory = codes "Memory"

abbrev pub of_limit : NatFault → List ℕ
of_limit (limits.TooManyPlanes n) = counted (codes "TooManyPlanes") n
of_limit (limits.TooManyLines n) = counted (codes "TooManyLines") n
of_limit (limits.TooManyDiscs n) = counted (codes "TooManyDiscs") n
of_limit limits.Memory = codes "Memory"

abbrev pub of_csg : CsgFault → List ℕ
of_csg (reading.BadToken line token) = at_token (codes "BadToken") line token
of_csg (reading.BadShape line token) = at_token (codes "BadShape") line token
of_csg (reading.BadNumber line token) = at_token (codes "BadNumber") line token
of_csg (reading.BadFrame line token) = at_token (codes "BadFrame") line token
of_csg (reading.Mixed line token) = at_token (codes "Mixed") line token
of_csg (reading.TooDeep line token) = at_token (codes "TooDeep") line token
of_csg (reading.Extra line token) = at_token (codes "Extra") line token
of_csg reading.Memory = codes "Memory"

abbrev pub overlap_words : ℕ → ℕ → List ℕ
overlap_words first second = codes "Overlap" ++ ((codes " layer " ++ decimal first) ++ (codes " layer " ++ decimal second))

abbrev pub of_layers : LayerFault → List ℕ
of_layers (layers.BadLayer line) = at_line (codes "BadLayer") line
of_layers (layers.TooManyLayers line) = at_line (codes "TooManyLayers") line
of_layers (layers.Overlap first second) = overlap_words first second
of_layers layers.Memory = codes "Memory"

abbrev pub of_part : PartFault → List ℕ
of_part (part.Off f) = of_text f
of_part (part.G f) = of_grammar f
of_part (part.Mesh f) = of_mesh f
of_part (part.Contour f) = of_contours f
of_part (part.Csg f) = of_csg f

-- the second part's faults stand behind its number
abbrev pub second_words : PartFault → List ℕ
second_words f = codes "part 2 " ++ of_part f

abbrev pub of_inner : InnerFault → List ℕ
of_inner (inner.G f) = of_grammar f
of_inner (inner.Contour f) = of_contours f
of_inner (inner.Limit f) = of_limit f

-- and a section's behind its number
abbrev pub in_layer_words : ℕ → InnerFault → List ℕ
in_layer_words layer f = (codes "layer " ++ decimal layer) ++ (codes " " ++ of_inner f)

abbrev pub said : Refusal → List ℕ
said PointTooFine = codes "PointTooFine"
said PointOffPlane = codes "PointOffPlane"
said TooLong = codes "TooLong"
said (Off f) = of_text f
said (G f) = of_grammar f
said (Mesh f) = of_mesh f
said (Contour f) = of_contours f
said (Limit f) = of_limit f
said (Csg f) = of_csg f
said NoPart = codes "NoPart"
said (PartTooLong part) = counted (codes "PartTooLong") part
said (Second f) = second_words f
said NotSolid = codes "NotSolid"
said OtherBox = codes "OtherBox"
said (Layer f) = of_layers f
said (InLayer layer f) = in_layer_words layer f

-- ---- the line of a status

abbrev pub refused_line : Refusal → List ℕ
refused_line f = codes "refused: " ++ (said f ++ codes "\n")

abbrev pub line : Status → List ℕ
line Done = []
line (Refused f) = refused_line f
line Usage = codes "usage: unknown command line\n"
line ReadFault = codes "read fault\n"
line WriteFault = codes "write fault\n"
line Memory = codes "out of memory\n"

-- ---- what a call leaves in the sink for notes

-- the line, or where the faults rose a front of it
abbrev pub HasLine : List ℕ → Option (List ℕ) → Option (List ℕ) → ℕ → ℕ → Type 0
HasLine text old new before now = Appends old new text ⊎ (AppendsFront old new text × Rose before now)

abbrev pub Notes : Status → Option (List ℕ) → Option (List ℕ) → ℕ → ℕ → Type 0
Notes Done old new before now = Keeps old new
Notes s old new before now = HasLine (line s) old new before now
