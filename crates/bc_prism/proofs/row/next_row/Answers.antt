use Rattle.std.proofs.Common.{◌∷◌, sym, ap, ◌∙◌, refl}
use Rattle.std.specs.Option.{option_map}
use Rattle.bc_lex.specs.Lines.{line}
use Rattle.bc_prism.specs.Reading.{rows_at}
use Rattle.bc_prism.proofs.RowSteps.{rows_some}
use Rattle.bc_prism.proofs.row.next_row.Goals as goal

pub returns-clause-rows : goal.returns-clause-rows
returns-clause-rows c =
    let h = ap (option_map line) (sym c.in_ok-line.was) ∙ c.next.ensures.answer in
    rows_some c.args.lines.now (line c.in_ok-line.line) (record { number = c.in_ok-line.line.number; from = c.args.from; behind = c.place.result; kind = c.line_kind.result }) h refl c.requires.at
    (c.place.ensures.value ∙ ap (λ p. p.at) c.next.ensures.place) c.line_kind.ensures
    ∙ ap (λ p. record { number = c.in_ok-line.line.number; from = c.args.from; behind = c.place.result; kind = c.line_kind.result } ∷ rows_at p) (sym c.next.ensures.place)
