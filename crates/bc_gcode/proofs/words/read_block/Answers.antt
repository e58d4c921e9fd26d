use Rattle.std.proofs.Common.{Ok, Err, sym, ap, ◌∙◌}
use Rattle.std.proofs.lemmas.Result.{err_from_is_err_and}
use Rattle.bc_lex.specs.Lines.{ALine}
use Rattle.bc_lex.specs.GWords.{seen, aword, after_word}
use Rattle.bc_lex.proofs.Nexts.{all_words_are_left}
use Rattle.bc_gcode.specs.Answers.{◌>>=◌}
use Rattle.bc_gcode.specs.Blocks.{no_words, with_words}
use Rattle.bc_gcode.proofs.Reading.{left_of, at_end, at_bad, at_word}
use Rattle.bc_gcode.proofs.words.read_block.Goals as goal

pub loop-line-init : goal.loop-line-init
loop-line-init c =
    let l : ALine = record { number = c.args.of.number; text = c.args.of.text.now } in
    ap (λ p. left_of p no_words) c.new-words.ensures ∙ ap (with_words l.number 0 no_words) (all_words_are_left l)

pub returns-in-Err : goal.returns-in-Err
returns-in-Err c =
    let h = ap seen (sym c.in-Err.is) ∙ c.next.ensures.answer in
    sym (at_bad c.loop-line.words c.loop-line.block (c.in-Err.field-0.line, c.in-Err.field-0.nth) h) ∙ c.loop-line.invariant

pub returns-in-Ok-None : goal.returns-in-Ok-None
returns-in-Ok-None c =
    let h = ap seen (sym (c.in-Ok-None.is ∙ ap Ok c.in-Ok-None.field-0-is)) ∙ c.next.ensures.answer in
    sym (at_end c.loop-line.words c.loop-line.block h) ∙ c.loop-line.invariant

pub loop-line-preserved : goal.loop-line-preserved
loop-line-preserved c =
    let h = ap seen (sym (c.in-Ok-Some.is ∙ ap Ok c.in-Ok-Some.field-0-is)) ∙ c.next.ensures.answer in
    let step = at_word c.loop-line.words c.loop-line.block (aword c.in-Ok-Some.word) h in
    ap (λ p. left_of p c.take_word.new.block) c.next.ensures.place
    ∙ ap (λ r. r >>= left_of (after_word c.loop-line.words)) c.in_ok-take_word-in-Ok-Some.ensures
    ∙ sym step
    ∙ c.loop-line.invariant

pub returns-in_err-take_word-in-Ok-Some : goal.returns-in_err-take_word-in-Ok-Some
returns-in_err-take_word-in-Ok-Some c =
    let h = ap seen (sym (c.in-Ok-Some.is ∙ ap Ok c.in-Ok-Some.field-0-is)) ∙ c.next.ensures.answer in
    let step = at_word c.loop-line.words c.loop-line.block (aword c.in-Ok-Some.word) h in
    let p = err_from_is_err_and c.from_residual.result c.from_residual.ensures.1 in
    p.1
    ∙ ap Err p.2
    ∙ ap (λ r. r >>= left_of (after_word c.loop-line.words)) c.in_err-take_word-in-Ok-Some.ensures
    ∙ sym step
    ∙ c.loop-line.invariant
