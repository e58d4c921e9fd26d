use Rattle.std.proofs.Common.{◌≡◌, ℕ, ◌+◌, Err, Some, sym, ap, ◌∙◌}
use Rattle.std.specs.Option.{option_map}
use Rattle.bc_lex.specs.Places.{WordPlace}
use Rattle.bc_lex.specs.Words.{plain, after_plain}
use Rattle.bc_lex.specs.Left.{plain_left}
use Rattle.bc_lex.proofs.PlainSteps.{plain_line_stays}
use Rattle.bc_off.specs.declared.fault.OffFault.TheVariants.{NotOff}
use Rattle.bc_off.specs.Left.{rows_left, end_left, row_then}
use Rattle.bc_off.specs.Header.{behind_off}
use Rattle.bc_off.proofs.Heads.{named, not_named, no_name}
use Rattle.bc_off.proofs.header.read_header.Goals as goal

pub returns-in-Some-next-clause-value : goal.returns-in-Some-next-clause-value
returns-in-Some-next-clause-value c =
    let p = c.in-Some.words in
    let lines = c.args.lines.now in
    let rest = rows_left c.next_row.new.lines in
    let row : rows_left lines ≡ row_then (Some p) rest = c.in-Some.ensures.row in
    let h = ap (option_map plain) (sym c.in-Some-next.is) ∙ c.next.ensures.answer in
    c.read_behind_name.ensures.value
    ∙ ap (λ (q : WordPlace). behind_off (end_left c.next_row.new.lines) q.line (plain_left q) rest) c.next.ensures.place
    ∙ ap (λ e. behind_off e (after_plain p).line (plain_left (after_plain p)) rest) c.in-Some.ensures.end
    ∙ ap (λ l. behind_off (end_left lines) l (plain_left (after_plain p)) rest) (plain_line_stays p)
    ∙ named (end_left lines) (rows_left lines) rest p (plain c.in-Some-next.name) row h (sym c.is_name.ensures ∙ c.if-is_name.true)

pub returns-in_default-next-clause-value : goal.returns-in_default-next-clause-value
returns-in_default-next-clause-value c =
    let p = c.in-Some.words in
    let lines = c.args.lines.now in
    let rest = rows_left c.next_row.new.lines in
    let row : rows_left lines ≡ row_then (Some p) rest = c.in-Some.ensures.row in
    let h = ap (option_map plain) (sym c.in-Some-next.is) ∙ c.next.ensures.answer in
    ap (λ (q : ℕ × ℕ). Err (NotOff q.0 q.1)) c.place_of_next-line.ensures
    ∙ ap (λ n. Err (NotOff p.line (n + 1))) c.in-Some.ensures.start.first
    ∙ not_named (end_left lines) (rows_left lines) rest p (plain c.in-Some-next.name) row h (sym c.is_name.ensures ∙ c.if-is_name.false)

pub returns-in_default-next-2-clause-value : goal.returns-in_default-next-2-clause-value
returns-in_default-next-2-clause-value c =
    let p = c.in-Some.words in
    let lines = c.args.lines.now in
    let rest = rows_left c.next_row.new.lines in
    let row : rows_left lines ≡ row_then (Some p) rest = c.in-Some.ensures.row in
    let h = ap (option_map plain) (sym c.in_default-next.is) ∙ c.next.ensures.answer in
    ap (λ (q : ℕ × ℕ). Err (NotOff q.0 q.1)) c.place_of_next-line.ensures
    ∙ ap (λ n. Err (NotOff p.line (n + 1))) c.in-Some.ensures.start.first
    ∙ no_name (end_left lines) (rows_left lines) rest p row h
