use Rattle.std.proofs.Common.{◌≡◌, Some, None, Ok, sym, ap, ◌∙◌}
use Rattle.std.proofs.lemmas.Result.{err_from_is_err_and}
use Rattle.bc_lex.specs.Places.{TokenPlace}
use Rattle.bc_lex.specs.Tokens.{atoken, next_token, seen, after_token}
use Rattle.bc_lex.specs.Stream.{tokens_left}
use Rattle.bc_lex.proofs.TokenStreams.{token_stays, text_stays}
use Rattle.bc_read.specs.Machine.{state, run, finish, end_line, step, ◌>>=◌}
use Rattle.bc_read.proofs.Turns.{at-end, at-bad, at-token, gives, failed}
use Rattle.bc_read.proofs.Seen.{reads, reads_err}
use Rattle.bc_read.proofs.read.read_csg.Goals as goal

pub returns-in-Err : goal.returns-in-Err
returns-in-Err c =
    let h = ap seen (sym c.in-Err.is) ∙ c.next.ensures.answer in
    sym c.loop-line.invariant.rest ∙ at-bad (end_line c.args.text.now) (state c.loop-line.reading) c.loop-line.tokens (c.in-Err.field-0.line, c.in-Err.field-0.nth) h

pub returns-in-Ok-None : goal.returns-in-Ok-None
returns-in-Ok-None c =
    let none : Ok None ≡ next_token c.loop-line.tokens = ap seen (sym (c.in-Ok-None.is ∙ ap Ok c.in-Ok-None.field-0-is)) ∙ c.next.ensures.answer in
    let nth_is : c.nth.result ≡ c.loop-line.tokens.nth = c.nth.ensures.value ∙ ap (λ (q : TokenPlace). q.nth) (c.next.ensures.place ∙ token_stays c.loop-line.tokens none) in
    reads c.args.text.now _ (gives _ _ (sym c.loop-line.invariant.rest ∙ at-end (end_line c.args.text.now) (state c.loop-line.reading) c.loop-line.tokens none ∙ ap (finish (end_line c.args.text.now) (state c.loop-line.reading).at) (sym nth_is) ∙ sym c.finish.ensures))

pub returns-in_err-take-in-Ok-Some : goal.returns-in_err-take-in-Ok-Some
returns-in_err-take-in-Ok-Some c =
    let some : Ok (Some (atoken c.in-Ok-Some.token)) ≡ next_token c.loop-line.tokens = ap seen (sym (c.in-Ok-Some.is ∙ ap Ok c.in-Ok-Some.field-0-is)) ∙ c.next.ensures.answer in
    let p = err_from_is_err_and c.from_residual.result c.from_residual.ensures.1 in
    rw (p.1, p.2) (reads_err _ c.args.text.now (failed _ _ (step (state c.loop-line.reading) (atoken c.in-Ok-Some.token)) _ (λ next. run (end_line c.args.text.now) next (tokens_left (after_token c.loop-line.tokens))) c.in_err-take-in-Ok-Some.ensures (sym c.loop-line.invariant.rest ∙ at-token (end_line c.args.text.now) (state c.loop-line.reading) c.loop-line.tokens (atoken c.in-Ok-Some.token) some)))

pub loop-line-preserved : goal.loop-line-preserved
loop-line-preserved c =
    let some : Ok (Some (atoken c.in-Ok-Some.token)) ≡ next_token c.loop-line.tokens = ap seen (sym (c.in-Ok-Some.is ∙ ap Ok c.in-Ok-Some.field-0-is)) ∙ c.next.ensures.answer in
    let place = c.next.ensures.place in
    record {
      rest =
          ap (λ q. run (end_line c.args.text.now) (state c.take.new.reading) (tokens_left q)) place
          ∙ sym (ap (λ r. r >>= λ next. run (end_line c.args.text.now) next (tokens_left (after_token c.loop-line.tokens))) c.in_ok-take-in-Ok-Some.ensures)
          ∙ sym (at-token (end_line c.args.text.now) (state c.loop-line.reading) c.loop-line.tokens (atoken c.in-Ok-Some.token) some)
          ∙ c.loop-line.invariant.rest;
      text_is = ap (λ (q : TokenPlace). q.text) place ∙ text_stays c.loop-line.tokens ∙ c.loop-line.invariant.text_is;
    }
