use Rattle.std.proofs.Common.{[], subst, rules}
use Rattle.bc_io.specs.Causes.{HasCause}
use Rattle.bc_io.specs.Pieces.{Puts}
use Rattle.bc_tree.specs.Shape.{shape}
use Rattle.bc_text.specs.Layout.{node_text}
use Rattle.bc_io.proofs.Grown.{all_put}
use Rattle.bc_text.proofs.whole.put_tree.Goals as goal

pub returns-clause-text : goal.returns-clause-text
returns-clause-text g c =
    let text = node_text [] c.args.depth 0 (shape c.args.t.now) in
    let whole = all_put c.new-pen.result c.put_tree_to.new.pen c.finish.new.self c.args.out.now text c.finish.result c.new-pen.ensures.fresh c.put_tree_to.ensures c.finish.ensures.text in
    subst (λ k. Puts (g.K.Sink.held c.args.out.now) (g.K.Sink.held k) c.finish.result text) (search rules) whole.0

pub returns-clause-cause : goal.returns-clause-cause
returns-clause-cause g c =
    let text = node_text [] c.args.depth 0 (shape c.args.t.now) in
    let whole = all_put c.new-pen.result c.put_tree_to.new.pen c.finish.new.self c.args.out.now text c.finish.result c.new-pen.ensures.fresh c.put_tree_to.ensures c.finish.ensures.text in
    subst (λ k. HasCause (g.K.Sink.faults c.args.out.now) (g.K.Sink.faults k) c.finish.result) (search rules) whole.1
