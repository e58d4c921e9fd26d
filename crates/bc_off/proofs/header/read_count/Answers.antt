use Rattle.std.proofs.Common.{ℕ, Err, sym, ap, ◌∙◌}
use Rattle.std.specs.Option.{option_map}
use Rattle.bc_num.specs.Whole.{whole}
use Rattle.bc_lex.specs.Words.{plain}
use Rattle.bc_off.specs.declared.fault.OffFault.TheVariants.{BadCount}
use Rattle.bc_off.specs.Header.{checked_count}
use Rattle.bc_off.proofs.WordSteps.{count_none, count_some}
use Rattle.bc_off.proofs.header.read_count.Goals as goal

pub returns-in-Some-clause-value : goal.returns-in-Some-clause-value
returns-in-Some-clause-value c =
    let h = ap (option_map plain) (sym c.in-Some.is) ∙ c.next.ensures.answer in
    c.count_value.ensures
    ∙ ap (λ (q : ℕ × ℕ). checked_count q.0 q.1 (whole c.in-Some.next.text.now)) c.place_of_next-line.ensures
    ∙ sym (count_some c.args.words.now (plain c.in-Some.next) h)

pub returns-in-None-clause-value : goal.returns-in-None-clause-value
returns-in-None-clause-value c =
    let h = ap (option_map plain) (sym c.in-None.is) ∙ c.next.ensures.answer in
    ap (λ (q : ℕ × ℕ). Err (BadCount q.0 q.1)) c.place_of_next-line.ensures ∙ sym (count_none c.args.words.now h)
