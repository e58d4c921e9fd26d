use Rattle.std.proofs.Common.{sym, ap, ◌∙◌}
use Rattle.std.specs.Option.{option_copied}
use Rattle.bc_gcode.proofs.Elements.{last_is}
use Rattle.bc_gcode.proofs.moves.last_point.Goals as goal

pub returns-in-Some : goal.returns-in-Some
returns-in-Some c =
    let h = ap option_copied (sym c.in-Some.is) ∙ c.last.ensures.value in
    c.finish_of.ensures ∙ sym (last_is c.args.first.now c.args.rest.now c.in-Some.last.now h)
