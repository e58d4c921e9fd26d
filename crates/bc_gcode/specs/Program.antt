-- A program: what each block does to the position, the motion mode and the contours, or the block's first fault. The rules
-- are RS274/NGC's with this project's profile: an arc whose end is its start is a full circle, and an omitted I or J is 0.
-- In the faults, l is the block's line.
use Rattle.std.specs.Prelude.{ℕ, ◌+◌, Bool, true, false, not, ◌&&◌, ◌||◌, nat_lt, List, [], ◌∷◌, ◌++◌, Option, Some, None, is_some, pos, ◌+ℤ◌, Result, Ok, Err, if◌then◌else◌}
use Rattle.std.specs.Option.{unwrap_or}
use Rattle.bc_num.specs.declared.v2.V2.{V2}
use Rattle.bc_num.specs.Measures.{is_same}
use Rattle.bc_solid.specs.declared.element.Element.{Element}
use Rattle.bc_solid.specs.declared.element.Element.TheVariants.{Edge, Arc}
use Rattle.bc_solid.specs.Closed.{start_of, end_of}
use Rattle.bc_solid.specs.Contours.{is_far_point}
use Rattle.bc_gcode.specs.declared.block.Motion.{Motion}
use Rattle.bc_gcode.specs.declared.block.Motion.TheVariants.{Rapid, Linear, Clockwise, CounterClockwise}
use Rattle.bc_gcode.specs.declared.block.Block.{Block}
use Rattle.bc_gcode.specs.declared.program.Program.{Program}
use Rattle.bc_gcode.specs.declared.fault.GFault.{GFault}
use Rattle.bc_gcode.specs.declared.fault.GFault.TheVariants.{TooFar, ThreeAxis, MissingMotion, MissingCentre, OpenContour, TooMany}
use Rattle.bc_gcode.specs.Answers.{◌>>=◌}

-- ---- contours

-- where the last of some elements ends
abbrev pub last_end : Element → List Element → V2
last_end e [] = end_of e
last_end e (next ∷ es) = last_end next es

-- where a contour begins and where it ends
abbrev pub ends_of : List Element → Option (V2 × V2)
ends_of [] = None
ends_of (e ∷ es) = Some (start_of e, last_end e es)

-- OpenContour: the contour does not end where it began
abbrev pub close_at : ℕ → Program → Option (V2 × V2) → Result Program GFault
close_at l s None = Ok s
close_at l s (Some ends) =
    if is_same ends.0 ends.1 then Ok (record s { contour = []; contours = s.contours ++ s.contour ∷ [] })
    else Err (OpenContour l ends.0 ends.1)

-- an empty contour is dropped; any other must end where it began, and is kept
abbrev pub close : ℕ → Program → Result Program GFault
close l s = close_at l s (ends_of s.contour)

-- one more element of the contour. TooMany: there are 512 already
abbrev pub add : ℕ → Program → Element → Result Program GFault
add l s e =
    if nat_lt s.count 512 then Ok (record s { position = end_of e; contour = s.contour ++ e ∷ []; count = s.count + 1 })
    else Err (TooMany l)

-- ---- blocks

-- X or Y stands in the block
abbrev pub has_end : Block → Bool
has_end b = is_some b.x || is_some b.y

-- I or J stands in the block
abbrev pub has_centre : Block → Bool
has_centre b = is_some b.i || is_some b.j

abbrev pub has_axis : Block → Bool
has_axis b = has_end b || has_centre b

-- the end point: an omitted X or Y keeps the position's value
abbrev pub end_point : V2 → Block → V2
end_point p b = record { x = unwrap_or b.x p.x; y = unwrap_or b.y p.y }

-- an arc's centre: I and J from the position, and an omitted one is 0
abbrev pub centre : V2 → Block → V2
centre p b = record { x = p.x +ℤ unwrap_or b.i (pos 0); y = p.y +ℤ unwrap_or b.j (pos 0) }

-- G00: with X or Y, the contour is closed, and the position moves
abbrev pub rapid : ℕ → Block → Program → Result Program GFault
rapid l b s = if has_end b then close l s >>= (λ s. Ok (record s { position = end_point s.position b })) else Ok s

-- G01: with X or Y, an edge from the position to the end point, and nothing where these are equal
abbrev pub linear : ℕ → Block → Program → Result Program GFault
linear l b s =
    let to = end_point s.position b in
    if has_end b && not (is_same s.position to) then add l s (Edge s.position to) else Ok s

-- G02 and G03: with X, Y, I or J, an arc from the position to the end point.
-- MissingCentre: neither I nor J stands; TooFar: the centre is past 1023
abbrev pub arc : Bool → ℕ → Block → Program → Result Program GFault
arc ccw l b s =
    let c = centre s.position b in
    if not (has_axis b) then Ok s
    else (if not (has_centre b) then Err (MissingCentre l)
    else (if is_far_point c then Err (TooFar l 0)
    else add l s (Arc s.position (end_point s.position b) c ccw)))

-- the move of a block in each motion mode. MissingMotion: X, Y, I or J stands, and there is no mode
abbrev pub move_in : Option Motion → ℕ → Block → Program → Result Program GFault
move_in None l b s = if has_axis b then Err (MissingMotion l) else Ok s
move_in (Some Rapid) l b s = rapid l b s
move_in (Some Linear) l b s = linear l b s
move_in (Some Clockwise) l b s = arc false l b s
move_in (Some CounterClockwise) l b s = arc true l b s

-- a block's mode word counts for the block itself
abbrev pub with_mode_of : Block → Program → Program
with_mode_of b s = record s { motion = unwrap_or b.mode s.motion }

-- what the block of line l does. ThreeAxis: Z stands beside X, Y, I or J
abbrev pub block_done : ℕ → Block → Program → Result Program GFault
block_done l b s =
    if b.z && has_axis b then Err (ThreeAxis l)
    else (let s = with_mode_of b s in move_in s.motion l b s)
