use Rattle.std.proofs.Common.{sym, ap, ◌∙◌}
use Rattle.std.specs.Option.{option_map}
use Rattle.bc_lex.specs.Lines.{line}
use Rattle.bc_lex.specs.Words.{plain}
use Rattle.bc_prism.proofs.RowSteps.{kind_empty, kind_layer, kind_other}
use Rattle.bc_prism.proofs.row.line_kind.Goals as goal

pub returns-in_default : goal.returns-in_default
returns-in_default c = kind_empty (line c.args.line) c.new-words.result c.new-words.ensures (ap (option_map plain) (sym c.in_default.is) ∙ c.next.ensures.answer)

pub returns-then-not-is_layer : goal.returns-then-not-is_layer
returns-then-not-is_layer c =
    kind_other (line c.args.line) c.new-words.result c.next.new.self (plain c.in-Some.word) c.new-words.ensures (ap (option_map plain) (sym c.in-Some.is) ∙ c.next.ensures.answer) c.next.ensures.place
    (sym c.is_layer.ensures ∙ c.if-not-is_layer.true)

pub returns : goal.returns
returns c =
    c.read_heights.ensures ∙ kind_layer (line c.args.line) c.new-words.result c.next.new.self (plain c.in-Some.word) c.new-words.ensures (ap (option_map plain) (sym c.in-Some.is) ∙ c.next.ensures.answer) c.next.ensures.place
    (sym c.is_layer.ensures ∙ c.if-not-is_layer.false)
