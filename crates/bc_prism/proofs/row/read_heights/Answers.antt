use Rattle.std.proofs.Common.{◌∷◌, sym, ap, ◌∙◌}
use Rattle.std.specs.Option.{option_map}
use Rattle.bc_lex.specs.Words.{plain}
use Rattle.bc_prism.specs.Rows.{heights}
use Rattle.bc_prism.proofs.RowSteps.{left_none, left_some, left_more, left_end, mapped}
use Rattle.bc_prism.proofs.row.read_heights.Goals as goal

pub returns-in_default : goal.returns-in_default
returns-in_default c =
    let h = ap (option_map plain) (sym c.in_default.is) ∙ c.next.ensures.answer in
    sym (ap heights (left_none c.args.words.now h))

pub returns-in_default-next : goal.returns-in_default-next
returns-in_default-next c =
    let h = ap (option_map plain) (sym c.in-Some.is) ∙ c.next.ensures.answer in
    let k = ap (option_map plain) (sym c.in_default-next.is) ∙ c.next-2.ensures.answer in
    let low = left_some c.args.words.now c.next.new.self (plain c.in-Some.low) h c.next.ensures.place in
    sym (ap heights (low ∙ ap (λ ws. c.in-Some.low.text.now ∷ ws) (left_none c.next.new.self k)))

pub returns-then-is_some : goal.returns-then-is_some
returns-then-is_some c =
    let h = ap (option_map plain) (sym c.in-Some.is) ∙ c.next.ensures.answer in
    let k = ap (option_map plain) (sym c.in-Some-next.is) ∙ c.next-2.ensures.answer in
    let low = left_some c.args.words.now c.next.new.self (plain c.in-Some.low) h c.next.ensures.place in
    let high = left_some c.next.new.self c.next-2.new.self (plain c.in-Some-next.high) k c.next-2.ensures.place in
    let more = left_more c.next-2.new.self (option_map plain c.next-3.result) c.next-3.ensures.answer (mapped plain c.next-3.result ∙ sym c.is_some.ensures ∙ c.if-is_some.true) in
    sym (ap heights (low ∙ ap (λ ws. c.in-Some.low.text.now ∷ ws) (high ∙ ap (λ ws. c.in-Some-next.high.text.now ∷ ws) more.2)))

pub returns : goal.returns
returns c =
    let h = ap (option_map plain) (sym c.in-Some.is) ∙ c.next.ensures.answer in
    let k = ap (option_map plain) (sym c.in-Some-next.is) ∙ c.next-2.ensures.answer in
    let low = left_some c.args.words.now c.next.new.self (plain c.in-Some.low) h c.next.ensures.place in
    let high = left_some c.next.new.self c.next-2.new.self (plain c.in-Some-next.high) k c.next-2.ensures.place in
    let none = left_end c.next-2.new.self (option_map plain c.next-3.result) c.next-3.ensures.answer (mapped plain c.next-3.result ∙ sym c.is_some.ensures ∙ c.if-is_some.false) in
    c.heights_of.ensures ∙ sym (ap heights (low ∙ ap (λ ws. c.in-Some.low.text.now ∷ ws) (high ∙ ap (λ ws. c.in-Some-next.high.text.now ∷ ws) none)))
