use Rattle.std.proofs.Common.{ap, ◌∙◌, sym, ℕ, List, subst}
use Rattle.std.specs.Map.{keys_of}
use Rattle.bc_solid.specs.declared.edge.Edge.{Edge}
use Rattle.bc_solid.specs.EdgeTables.{CountsOnce, count_of}
use Rattle.bc_solid.proofs.EdgeTables.{keys-inserted, counts-inserted}
use Rattle.bc_solid.proofs.edge_table.EdgeTable.add.Goals as goal

pub returns : goal.returns
returns c =
    subst (λ (es : List (Edge × ℕ)). CountsOnce c.args.key es c.insert.new.self.entries) c.self.view_is
    (record {
      keys = ap keys_of c.in_ok-insert.ensures.entries ∙ keys-inserted c.self.inside.counts.entries c.args.key _;
      counts = λ q. counts-inserted c.args.key q c.self.inside.counts.entries c.insert.new.self.entries c.count-count.result (c.count-count.ensures ∙ ap (count_of c.args.key) (sym c.self.view_is)) (c.in_ok-insert.ensures.updates.0 q);
    })
