use Rattle.std.proofs.Common.{◌≡◌, ◌+◌, None, sym, ap, ◌∙◌}
use Rattle.std.specs.Option.{option_map}
use Rattle.std.proofs.lemmas.Result.{err_from_is_err_and}
use Rattle.bc_lex.specs.Places.{LinePlace}
use Rattle.bc_lex.specs.Lines.{line, next_line}
use Rattle.bc_lex.proofs.Nexts.{line_moved, line_stays}
use Rattle.bc_gcode.specs.Gcode.{finish}
use Rattle.bc_gcode.proofs.Running.{left_from, at_last, block_fails, block_read, block_ended, block_went, along, gives_err, failed, reads}
use Rattle.bc_gcode.proofs.Kept.{ends_well}
use Rattle.bc_gcode.proofs.read.read_contours.Goals as goal

pub returns-in_err-block : goal.returns-in_err-block
returns-in_err-block c =
    let h = ap (option_map line) (sym c.in-Some.is) ∙ c.next.ensures.answer in
    let p = err_from_is_err_and c.from_residual.result c.from_residual.ensures.1 in
    reads _ _ (rw (p.1, p.2) (gives_err _ _ (sym c.loop-line.invariant.rest ∙ block_fails c.loop-line.lines c.loop-line.program (line c.in-Some.line) _ h c.in_err-block.ensures)))

pub returns-in_err-do_block : goal.returns-in_err-do_block
returns-in_err-do_block c =
    let h = ap (option_map line) (sym c.in-Some.is) ∙ c.next.ensures.answer in
    let p = err_from_is_err_and c.from_residual-in_err-do_block.result c.from_residual-in_err-do_block.ensures.1 in
    reads _ _ (rw (p.1, p.2) (failed _ _ _ _ _ c.in_err-do_block.ensures
    (sym c.loop-line.invariant.rest ∙ block_read c.loop-line.lines c.loop-line.program (line c.in-Some.line) c.in_ok-block.block h c.in_ok-block.ensures)))

pub returns-then-block : goal.returns-then-block
returns-then-block c =
    let h = ap (option_map line) (sym c.in-Some.is) ∙ c.next.ensures.answer in
    let led =
    block_ended c.loop-line.lines c.loop-line.program (line c.in-Some.line) c.in_ok-block.block c.do_block.new.program h c.in_ok-block.ensures
    c.in_ok-do_block.ensures c.if-block.true in
    reads _ _ (along _ _ _ (sym c.loop-line.invariant.rest ∙ led) c.finished.ensures)

pub finished-requires : goal.finished-requires
finished-requires c =
    let h = ap (option_map line) (sym c.in-Some.is) ∙ c.next.ensures.answer in
    let led =
    block_ended c.loop-line.lines c.loop-line.program (line c.in-Some.line) c.in_ok-block.block c.do_block.new.program h c.in_ok-block.ensures
    c.in_ok-do_block.ensures c.if-block.true in
    ends_well c.args.text.now _ (sym c.loop-line.invariant.rest ∙ led)

pub finished-requires-2 : goal.finished-requires-2
finished-requires-2 c =
    let h : None ≡ next_line c.loop-line.lines = ap (option_map line) (sym c.in_default.is) ∙ c.next.ensures.answer in
    let number_is : c.number.result ≡ c.loop-line.lines.number =
    c.number.ensures.value ∙ ap (λ (p : LinePlace). p.number) (c.next.ensures.place ∙ line_stays c.loop-line.lines (sym h)) in
    let led = at_last c.loop-line.lines c.loop-line.program h in
    ends_well c.args.text.now _ (sym c.loop-line.invariant.rest ∙ led ∙ ap (λ n. finish (n + 1) c.loop-line.program) (sym number_is))

pub loop-line-preserved : goal.loop-line-preserved
loop-line-preserved c =
    let h = ap (option_map line) (sym c.in-Some.is) ∙ c.next.ensures.answer in
    let led =
    block_went c.loop-line.lines c.loop-line.program (line c.in-Some.line) c.in_ok-block.block c.do_block.new.program h c.in_ok-block.ensures
    c.in_ok-do_block.ensures c.if-block.false in
    let m = line_moved c.loop-line.lines (line c.in-Some.line) (sym h) in
    record {
      rest = ap (λ p. left_from p c.do_block.new.program) c.next.ensures.place ∙ sym led ∙ c.loop-line.invariant.rest;
      text_is = ap (λ (p : LinePlace). p.text) c.next.ensures.place ∙ m.text ∙ c.loop-line.invariant.text_is;
    }

pub returns : goal.returns
returns c =
    let h : None ≡ next_line c.loop-line.lines = ap (option_map line) (sym c.in_default.is) ∙ c.next.ensures.answer in
    let number_is : c.number.result ≡ c.loop-line.lines.number =
    c.number.ensures.value ∙ ap (λ (p : LinePlace). p.number) (c.next.ensures.place ∙ line_stays c.loop-line.lines (sym h)) in
    let led = at_last c.loop-line.lines c.loop-line.program h in
    reads _ _ (along _ _ _ (sym c.loop-line.invariant.rest ∙ led ∙ ap (λ n. finish (n + 1) c.loop-line.program) (sym number_is)) c.finished-2.ensures)
