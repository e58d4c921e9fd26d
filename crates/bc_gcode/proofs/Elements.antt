-- The last of some elements.
use Rattle.std.proofs.Common.{◌≡◌, ◌-◌, List, [], ◌∷◌, length, slice_get, Some, ap, ◌∙◌, arith}
use Rattle.bc_solid.specs.declared.element.Element.{Element}
use Rattle.bc_solid.specs.Closed.{end_of}
use Rattle.bc_gcode.specs.Program.{last_end}

last-get : (e : Element) (es : List Element) (l : Element) → Some l ≡ slice_get (e ∷ es) (length es) → last_end e es ≡ end_of l
last-get e [] l h = cc
last-get e (x ∷ xs) l h = last-get x xs l h

pub last_is : (e : Element) (es : List Element) (l : Element) → Some l ≡ slice_get es (length es - 1) → last_end e es ≡ end_of l
last_is e [] l h = cc
last_is e (x ∷ xs) l h =
    let n : length (x ∷ xs) - 1 ≡ length xs = omega arith in
    last-get x xs l (h ∙ ap (slice_get (x ∷ xs)) n)
