use Rattle.std.proofs.Common.{subst, rules}
use Rattle.bc_io.specs.Causes.{HasCause}
use Rattle.bc_io.specs.Pieces.{Puts}
use Rattle.bc_tree.specs.Shape.{shape}
use Rattle.bc_text.specs.Layout.{layout}
use Rattle.bc_io.proofs.Grown.{behind, all_put}
use Rattle.bc_text.proofs.Counting.{counted_of-early}
use Rattle.bc_text.proofs.whole.print_with.Goals as goal

pub put_node-requires-clause-counted : goal.put_node-requires-clause-counted
put_node-requires-clause-counted g c = counted_of-early c.args.notes.now c.requires.early

pub returns-clause-text : goal.returns-clause-text
returns-clause-text g c =
    let text = layout c.args.head.now c.args.notes.now (shape c.args.t.now) in
    let whole = all_put c.new-pen.result c.put_node.new.pen c.finish.new.self c.args.out.now text c.finish.result c.new-pen.ensures.fresh (behind c.put_head.ensures c.put_node.ensures.bytes) c.finish.ensures.text in
    subst (λ k. Puts (g.K.Sink.held c.args.out.now) (g.K.Sink.held k) c.finish.result text) (search rules) whole.0

pub returns-clause-cause : goal.returns-clause-cause
returns-clause-cause g c =
    let text = layout c.args.head.now c.args.notes.now (shape c.args.t.now) in
    let whole = all_put c.new-pen.result c.put_node.new.pen c.finish.new.self c.args.out.now text c.finish.result c.new-pen.ensures.fresh (behind c.put_head.ensures c.put_node.ensures.bytes) c.finish.ensures.text in
    subst (λ k. HasCause (g.K.Sink.faults c.args.out.now) (g.K.Sink.faults k) c.finish.result) (search rules) whole.1
