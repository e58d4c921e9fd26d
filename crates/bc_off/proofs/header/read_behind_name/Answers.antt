use Rattle.std.proofs.Common.{◌≡◌, ◌+◌, [], Some, sym, ap, ◌∙◌}
use Rattle.bc_lex.specs.Left.{plain_left}
use Rattle.bc_off.specs.Left.{rows_left, end_left, row_then}
use Rattle.bc_off.specs.Header.{before_rows}
use Rattle.bc_off.proofs.WordSteps.{ended, more}
use Rattle.bc_off.proofs.Heads.{end_is, on_line, on_next, on_none}
use Rattle.bc_off.proofs.header.read_behind_name.Goals as goal

pub returns-then-not-is_ended-clause-value : goal.returns-then-not-is_ended-clause-value
returns-then-not-is_ended-clause-value c =
    let p = c.args.words in
    let lines = c.args.lines.now in
    ap (before_rows (rows_left lines)) c.read_counts.ensures
    ∙ on_line (end_left lines) p.line (p.nth + 1) (plain_left p) (rows_left lines) (more p (sym c.if-not-is_ended.true ∙ c.is_ended.ensures)) (ap (λ n. n + 1) c.requires.second)

pub returns-in-Some-clause-value : goal.returns-in-Some-clause-value
returns-in-Some-clause-value c =
    let p = c.args.words in
    let lines = c.args.lines.now in
    let rest = rows_left c.next_row.new.lines in
    let row : rows_left lines ≡ row_then (Some c.in-Some.words) rest = c.in-Some.ensures.row in
    ap (before_rows rest) c.read_counts-in-Some.ensures
    ∙ on_next (end_left lines) p.line (plain_left p) (rows_left lines) rest c.in-Some.words (ended p (sym c.if-not-is_ended.false ∙ c.is_ended.ensures)) row c.in-Some.ensures.start.first

pub returns-in-None-clause-value : goal.returns-in-None-clause-value
returns-in-None-clause-value c =
    let p = c.args.words in
    let lines = c.args.lines.now in
    let none : rows_left lines ≡ [] = c.in-None.ensures.row in
    on_none (end_left lines) p.line (c.number.result + 1) (plain_left p) (rows_left lines) (ended p (sym c.if-not-is_ended.false ∙ c.is_ended.ensures)) none
    (ap (λ n. n + 1) c.number.ensures.value ∙ end_is lines c.next_row.new.lines c.in-None.ensures.last c.in-None.ensures.end)
