use Rattle.std.proofs.Common.{◌+◌, ◌∙◌, sym, ap, length}
use Rattle.std.specs.Option.{option_map}
use Rattle.bc_lex.specs.Places.{LinePlace}
use Rattle.bc_lex.specs.Lines.{line}
use Rattle.bc_lex.specs.Left.{lines_left}
use Rattle.bc_read.proofs.Turns.{line-came, line-text}
use Rattle.bc_read.proofs.read.end_line.Goals as goal

pub loop-preserved : goal.loop-preserved
loop-preserved c =
    let h = ap (option_map line) (sym c.in-Some.is) ∙ c.next.ensures.answer in
    let place = c.next.ensures.place in
    record {
      count = ap (λ (p : LinePlace). p.number + length (lines_left p)) place ∙ line-came c.loop.lines (line c.in-Some.field-0) h ∙ c.loop.invariant.count;
      text_is = ap (λ (p : LinePlace). p.text) place ∙ line-text c.loop.lines ∙ c.loop.invariant.text_is;
    }
