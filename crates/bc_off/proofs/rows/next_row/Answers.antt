use Rattle.std.proofs.Common.{◌∷◌, sym, ap, ◌∙◌}
use Rattle.std.specs.Option.{option_map}
use Rattle.bc_lex.specs.Places.{LinePlace}
use Rattle.bc_lex.specs.Lines.{line}
use Rattle.bc_off.specs.Left.{rows_left, end_left, row_at}
use Rattle.bc_off.proofs.RowSteps.{rows_some, rows_skipped, end_line_on, text_stays}
use Rattle.bc_off.proofs.rows.next_row.Goals as goal

pub returns-then-not-is_ended-clause-row : goal.returns-then-not-is_ended-clause-row
returns-then-not-is_ended-clause-row c =
    let h = ap (option_map line) (sym c.in-Some.is) ∙ c.next.ensures.answer in
    c.loop-line.invariant.rows
    ∙ rows_some c.loop-line.lines (line c.in-Some.line) c.new-words.result h c.new-words.ensures (sym c.if-not-is_ended.true ∙ c.is_ended.ensures)
    ∙ ap (λ p. row_at c.new-words.result ∷ rows_left p) (sym c.next.ensures.place)

pub returns-then-not-is_ended-clause-end : goal.returns-then-not-is_ended-clause-end
returns-then-not-is_ended-clause-end c =
    let h = ap (option_map line) (sym c.in-Some.is) ∙ c.next.ensures.answer in
    ap end_left c.next.ensures.place ∙ end_line_on c.loop-line.lines (line c.in-Some.line) h ∙ c.loop-line.invariant.end

pub loop-line-preserved : goal.loop-line-preserved
loop-line-preserved c =
    let h = ap (option_map line) (sym c.in-Some.is) ∙ c.next.ensures.answer in
    record {
      rows = c.loop-line.invariant.rows
          ∙ rows_skipped c.loop-line.lines (line c.in-Some.line) c.new-words.result h c.new-words.ensures (sym c.if-not-is_ended.false ∙ c.is_ended.ensures)
          ∙ ap rows_left (sym c.next.ensures.place);
      end = ap end_left c.next.ensures.place ∙ end_line_on c.loop-line.lines (line c.in-Some.line) h ∙ c.loop-line.invariant.end;
      text_is = ap (λ (p : LinePlace). p.text) c.next.ensures.place ∙ text_stays c.loop-line.lines (line c.in-Some.line) h ∙ c.loop-line.invariant.text_is;
    }
