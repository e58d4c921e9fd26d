use Rattle.std.proofs.Common.{◌≤◌, ◌++◌, map, length, sym, ap, ◌∙◌, subst, arith}
use Rattle.bc_prism.specs.Sections.{section, first_fault}
use Rattle.bc_prism.specs.Reading.{EndsIn, layers_so_far, pending, rows_at}
use Rattle.bc_prism.proofs.Reading.{stepped}
use Rattle.bc_prism.proofs.sections.read_lines.Goals as goal

pub loop-row-preserved : goal.loop-row-preserved
loop-row-preserved c =
    let text = c.args.text.now in
    let row = c.in-Some.row in
    let all = c.loop-row.invariant in
    let rows = c.in-Some.ensures.rows in
    let from = c.in-Some.ensures.from in
    let order = c.in-Some.ensures.order in
    let within : row.behind ≤ length text = subst (λ t. row.behind ≤ length t) all.text_is order.1 in
    let s = stepped text c.loop-row.made c.take_row.new.made c.loop-row.begun c.in_ok-begun.begun row (rows_at c.next_row.new.lines) c.in_ok-begun.ensures.takes (omega (arith, from, order.0)) within
    (subst (λ n. EndsIn c.loop-row.begun n text) (sym from) all.ends) in
    record {
      fault = s.fault ∙ ap (first_fault (layers_so_far c.loop-row.made c.loop-row.begun)) (sym rows) ∙ all.fault;
      found = s.found ∙ ap (λ rs. map section c.loop-row.made ++ pending c.loop-row.begun text rs) (sym rows) ∙ all.found;
      few = c.in_ok-begun.ensures.few all.few;
      text_is = c.next_row.ensures.text ∙ all.text_is;
      place = c.in-Some.ensures.at;
      within = within;
      ends = s.ends;
    }
