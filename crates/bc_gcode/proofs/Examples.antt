-- The definition of contours at a few texts.
use Rattle.std.proofs.Common.{pos, false, [], ◌∷◌, refl}
use Rattle.std.specs.Prelude.{codes}
use Rattle.bc_solid.specs.declared.element.Element.TheVariants.{Arc}
use Rattle.bc_gcode.specs.declared.fault.GFault.TheVariants.{OpenContour, BadWord, TooFar}
use Rattle.bc_gcode.specs.Gcode.{Gcode, FirstFault}

-- a full circle, clockwise
circle : Gcode (codes "g0x5y0\n(a) g2 i-5 ; b") ((Arc (record { x = pos 5; y = pos 0 }) (record { x = pos 5; y = pos 0 }) (record { x = pos 0; y = pos 0 }) false ∷ []) ∷ [])
circle = refl

-- at the end of the text the contour is open, and the line is the one behind the last
open-at-end : FirstFault (codes "G01 X1") (OpenContour 2 (record { x = pos 0; y = pos 0 }) (record { x = pos 1; y = pos 0 }))
open-at-end = refl

-- words behind M30 on its line are read
read-after-end : FirstFault (codes "M30 ?") (BadWord 1 2)
read-after-end = refl

-- what follows on later lines is not
not-read-after-end : Gcode (codes "M30\n?") []
not-read-after-end = refl

-- a centre past 1023 is a fault of the block
centre-far : FirstFault (codes "G02 I1024") (TooFar 1 0)
centre-far = refl
