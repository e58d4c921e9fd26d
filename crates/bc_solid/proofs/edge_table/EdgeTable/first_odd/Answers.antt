use Rattle.std.proofs.Common.{◌≡◌, ◌%◌, arith, sym, length, ◌≤◌}
use Rattle.std.specs.Map.{keys_of}
use Rattle.std.proofs.lemmas.List.{take_all}
use Rattle.std.proofs.lemmas.List.Elements.{All-same}
use Rattle.bc_solid.specs.EdgeTables.{count_of}
use Rattle.bc_solid.proofs.Lists.{all_more}
use Rattle.bc_solid.proofs.EdgeTables.{even_count}
use Rattle.bc_solid.proofs.edge_table.EdgeTable.first_odd.Goals as goal

pub loop-i-preserved : goal.loop-i-preserved
loop-i-preserved c =
    all_more (λ k. count_of k c.args.self.now % 2 ≡ 0) (keys_of c.args.self.now) c.loop-i.i c.entry-count.result.0 c.entry-count.ensures.key c.loop-i.invariant
    (even_count _ _ c.entry-count.ensures.count c.if-count-eq1.false)

pub returns-clause-none : goal.returns-clause-none
returns-clause-none c = λ _.
    let l : length (keys_of c.args.self.now) ≤ c.loop-i.i = omega (arith, c.len-i-end.ensures, c.loop-i-test.false) in
    All-same (λ k. count_of k c.args.self.now % 2 ≡ 0) _ _ (sym (take_all c.loop-i.i (keys_of c.args.self.now) l)) c.loop-i.invariant
