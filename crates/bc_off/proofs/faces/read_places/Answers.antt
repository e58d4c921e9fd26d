use Rattle.std.proofs.Common.{◌+◌, ◌-◌, sym, ap, subst, ◌∙◌}
use Rattle.std.proofs.lemmas.Result.{err_from_is_err_and}
use Rattle.bc_lex.specs.Left.{plain_left}
use Rattle.bc_off.specs.Left.{IsBehind}
use Rattle.bc_off.specs.Faces.{place_of, places}
use Rattle.bc_off.proofs.Runs.{joined, gives_err}
use Rattle.bc_off.proofs.FaceSteps.{behind_more, ok_left, places_fails, places_went}
use Rattle.bc_off.proofs.faces.read_places.Goals as goal

pub returns-in_err-read_place-clause-value : goal.returns-in_err-read_place-clause-value
returns-in_err-read_place-clause-value c =
    let p = c.loop.words in
    let f = err_from_is_err_and c.from_residual.result c.from_residual.ensures.1 in
    rw (f.1, f.2) (gives_err _ _ (sym c.loop.invariant.all
    ∙ places_fails p.line (p.nth + 1) c.args.vertices c.args.count c.loop.counter (plain_left p) c.loop.face _ c.loop-test.true (sym c.in_err-read_place.ensures.value)))

pub loop-preserved : goal.loop-preserved
loop-preserved c =
    let p = c.loop.words in
    let q = c.read_place.new.words in
    let m = c.args.vertices in
    let i = c.loop.counter in
    let x = c.in_ok-read_place.field-0 in
    let next : IsBehind 1 p q = subst (IsBehind 1 p) (sym c.read_place.ensures.place) (ok_left (place_of p.line (p.nth + 1) m) p x c.in_ok-read_place.ensures.value) in
    record {
      all = ap (λ face. joined face (places q.line (q.nth + 1) m (c.args.count - (i + 1)) (plain_left q))) c.in_ok-push.ensures.ok
          ∙ sym (places_went m c.args.count i p q c.loop.face x c.loop-test.true next c.in_ok-read_place.ensures.value)
          ∙ c.loop.invariant.all;
      behind = behind_more i c.args.words.now p q c.loop.invariant.behind next;
    }
