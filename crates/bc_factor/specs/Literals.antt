-- What the literals of the code stand for.
use Rattle.std.specs.Prelude.{Option, option_map}
use Rattle.bc_cover.specs.Covers.{Literal, positive, negative}
use Rattle.bc_factor.specs.declared.literal.Literal.{Literal as Coded}
use Rattle.bc_factor.specs.declared.literal.Literal.TheVariants.{Positive, Negative}

abbrev pub the_literal : Coded → Literal
the_literal (Positive i) = positive i
the_literal (Negative i) = negative i

abbrev pub the_choice : Option Coded → Option Literal
the_choice o = option_map the_literal o
