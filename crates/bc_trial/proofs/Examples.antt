-- The definitions of the generated texts at one step and one hole.
use Rattle.std.proofs.Common.{◌≡◌, refl}
use Rattle.std.specs.Prelude.{codes}
use Rattle.std.specs.Fmt.{digits}
use Rattle.bc_trial.specs.Texts.{off_text, contour_text}

one-step :
    off_text 1
    ≡ codes "OFF 8 6 0\n0 0 0\n0 0 1\n1 0 1\n1 0 0\n0 10 0\n0 10 1\n1 10 1\n1 10 0\n4 0 1 2 3\n4 4 5 6 7\n4 0 1 5 4\n4 1 2 6 5\n4 2 3 7 6\n4 3 0 4 7\n"
unfolding digits
one-step = refl

one-hole : contour_text 1 ≡ codes "G00 X0 Y0\nG01 X20 Y0\nG01 X20 Y20\nG01 X0 Y20\nG01 X0 Y0\nG00 X15 Y10\nG03 X15 Y10 I-5 J0\nM30\n"
unfolding digits
one-hole = refl
