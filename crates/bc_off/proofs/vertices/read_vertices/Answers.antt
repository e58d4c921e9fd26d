use Rattle.std.proofs.Common.{◌≡◌, ◌+◌, ◌-◌, [], ◌∷◌, Err, sym, ap, ◌∙◌}
use Rattle.std.proofs.lemmas.Result.{err_from_is_err_and}
use Rattle.bc_off.specs.declared.fault.OffFault.TheVariants.{Short}
use Rattle.bc_off.specs.Left.{rows_left, end_left, row_at}
use Rattle.bc_off.specs.Vertices.{vertex, vertices}
use Rattle.bc_off.proofs.Heads.{end_is}
use Rattle.bc_off.proofs.Runs.{joined, gives_err, each_short, each_fails, each_went, drop_more}
use Rattle.bc_off.proofs.vertices.read_vertices.Goals as goal

pub returns-in_default-clause-value : goal.returns-in_default-clause-value
returns-in_default-clause-value c =
    let e = end_left c.args.lines.now in
    let none : rows_left c.loop.lines ≡ [] = c.in_default.ensures.row in
    let end : c.number.result + 1 ≡ e =
    ap (λ n. n + 1) c.number.ensures.value ∙ end_is c.loop.lines c.next_row.new.lines c.in_default.ensures.last c.in_default.ensures.end ∙ c.loop.invariant.end_is in
    sym c.loop.invariant.all
    ∙ each_short vertex e c.args.count c.loop.counter (rows_left c.loop.lines) c.loop.points c.loop-test.true none
    ∙ ap (λ n. Err (Short n 0)) (sym end)

pub returns-in_err-read_vertex-clause-value : goal.returns-in_err-read_vertex-clause-value
returns-in_err-read_vertex-clause-value c =
    let e = end_left c.args.lines.now in
    let row : rows_left c.loop.lines ≡ row_at c.in-Some.words ∷ rows_left c.next_row.new.lines = c.in-Some.ensures.row in
    let f = err_from_is_err_and c.from_residual.result c.from_residual.ensures.1 in
    rw (f.1, f.2) (gives_err _ _ (sym c.loop.invariant.all
    ∙ each_fails vertex e c.args.count c.loop.counter (rows_left c.loop.lines) (rows_left c.next_row.new.lines) (row_at c.in-Some.words) c.loop.points _ c.loop-test.true row (sym c.in_err-read_vertex.ensures)))

pub loop-preserved : goal.loop-preserved
loop-preserved c =
    let e = end_left c.args.lines.now in
    let row : rows_left c.loop.lines ≡ row_at c.in-Some.words ∷ rows_left c.next_row.new.lines = c.in-Some.ensures.row in
    let i = c.loop.counter in
    record {
      all = ap (λ points. joined points (vertices e (c.args.count - (i + 1)) (rows_left c.next_row.new.lines))) c.in_ok-push.ensures.ok
          ∙ sym (each_went vertex e c.args.count i (rows_left c.loop.lines) (rows_left c.next_row.new.lines) (row_at c.in-Some.words) c.loop.points c.in_ok-read_vertex.field-0 c.loop-test.true row (sym c.in_ok-read_vertex.ensures))
          ∙ c.loop.invariant.all;
      rest = drop_more i (rows_left c.args.lines.now) (rows_left c.loop.lines) (row_at c.in-Some.words) (rows_left c.next_row.new.lines) c.loop.invariant.rest row;
      text_is = c.in-Some.ensures.text ∙ c.loop.invariant.text_is;
      end_is = c.in-Some.ensures.end ∙ c.loop.invariant.end_is;
    }
