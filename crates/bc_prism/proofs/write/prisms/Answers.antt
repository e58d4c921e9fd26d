use Rattle.std.proofs.Common.{subst, sym, rules}
use Rattle.bc_io.specs.Causes.{HasCause}
use Rattle.bc_io.specs.Pieces.{Puts}
use Rattle.bc_io.proofs.Grown.{all_put}
use Rattle.bc_prism.specs.Layers.{layers_of}
use Rattle.bc_prism.specs.Prisms.{prism_layout}
use Rattle.bc_prism.proofs.write.prisms.Goals as goal

pub returns-clause-text : goal.returns-clause-text
returns-clause-text g c =
    let text = prism_layout c.args.bounds.now (layers_of c.args.layers.now) in
    let whole = all_put c.new-pen.result c.put_prism.new.pen c.finish.new.self c.args.out.now text c.finish.result c.new-pen.ensures.fresh (rw (sym c.as_slice.ensures) c.put_prism.ensures) c.finish.ensures.text in
    subst (λ k. Puts (g.K.Sink.held c.args.out.now) (g.K.Sink.held k) c.finish.result text) (search rules) whole.0

pub returns-clause-cause : goal.returns-clause-cause
returns-clause-cause g c =
    let text = prism_layout c.args.bounds.now (layers_of c.args.layers.now) in
    let whole = all_put c.new-pen.result c.put_prism.new.pen c.finish.new.self c.args.out.now text c.finish.result c.new-pen.ensures.fresh (rw (sym c.as_slice.ensures) c.put_prism.ensures) c.finish.ensures.text in
    subst (λ k. HasCause (g.K.Sink.faults c.args.out.now) (g.K.Sink.faults k) c.finish.result) (search rules) whole.1
