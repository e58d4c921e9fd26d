-- The contours of a text, or its first fault: the blocks of its lines, one after another from the opening state, after
-- RS274/NGC with this project's profile.
use Rattle.std.specs.Prelude.{◌≡◌, ℕ, ◌+◌, List, [], ◌∷◌, Result, Ok, Err, None, pos, if◌then◌else◌}
use Rattle.bc_num.specs.Lines.{lines}
use Rattle.bc_solid.specs.declared.element.Element.{Element}
use Rattle.bc_solid.specs.declared.raw_contours.RawContours.{RawContours}
use Rattle.bc_gcode.specs.declared.program.Program.{Program}
use Rattle.bc_gcode.specs.declared.fault.GFault.{GFault}
use Rattle.bc_gcode.specs.declared.fault.GFault.TheVariants.{Memory}
use Rattle.bc_gcode.specs.Answers.{◌>>=◌}
use Rattle.bc_gcode.specs.Blocks.{block_of}
use Rattle.bc_gcode.specs.Program.{close, block_done}

-- before the first block: at (0,0), without a motion mode, and without contours
abbrev pub opening : Program
opening = record { position = record { x = pos 0; y = pos 0 }; motion = None; contour = []; contours = []; count = 0 }

-- the end of a program closes the contour
abbrev pub finish : ℕ → Program → Result (List (List Element)) GFault
finish l s = close l s >>= λ s. Ok s.contours

-- what the lines from line l on lead to: the text ends at the line behind the last, and a block with M 2 or M 30 ends the
-- program, so that what follows it is not read
abbrev pub run : ℕ → Program → List (List ℕ) → Result (List (List Element)) GFault
run l s [] = finish l s
run l s (line ∷ rest) =
    block_of l line >>= (λ b. block_done l b s >>= (λ s. if b.ends then finish l s else run (l + 1) s rest))

abbrev pub contours_of : List ℕ → Result (List (List Element)) GFault
contours_of text = run 1 opening (lines text)

-- the blocks of the text lead from the opening to these contours
abbrev pub Gcode : List ℕ → List (List Element) → Type 0
Gcode text contours = contours_of text ≡ Ok contours

-- this is the first fault of the text
abbrev pub FirstFault : List ℕ → GFault → Type 0
FirstFault text f = contours_of text ≡ Err f

-- an answer has the contours that are wanted or the fault, unless memory ran out
abbrev pub Gives : Result RawContours GFault → Result (List (List Element)) GFault → Type 0
Gives (Ok raw) want = want ≡ Ok raw.contours
Gives (Err Memory) want = Unit {0}
Gives (Err f) want = want ≡ Err f

-- an answer has the text's contours or its first fault, unless memory ran out
abbrev pub Reads : Result RawContours GFault → List ℕ → Type 0
Reads (Ok raw) text = Gcode text raw.contours
Reads (Err Memory) text = Unit {0}
Reads (Err f) text = FirstFault text f
