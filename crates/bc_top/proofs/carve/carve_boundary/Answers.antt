use Rattle.std.proofs.Common.{List, subst}
use Rattle.bc_text.specs.Layout.{layout}
use Rattle.bc_text.specs.declared.note.Note.{Note}
use Rattle.bc_tree.specs.Shape.{shape}
use Rattle.bc_top.specs.Stages.{IsPut}
use Rattle.bc_top.specs.Streams.{writing}
use Rattle.bc_top.proofs.Fulfilled.{keeps_same}
use Rattle.bc_top.proofs.Carving.{allowed_of_kind, stop_of_kind, put_of_kind}
use Rattle.bc_top.proofs.carve.carve_boundary.Goals as goal

pub put_layout-requires-clause-allowed : goal.put_layout-requires-clause-allowed
put_layout-requires-clause-allowed g c =
    let (bytes, read, d, is, made) = c.in-Ok.ensures.ok in
    allowed_of_kind c.args.kind bytes d c.in-Ok.formula is made

pub returns-in-Ok : goal.returns-in-Ok
returns-in-Ok g c =
    let f = c.in-Ok.formula in
    let (bytes, read, d, is, made) = c.in-Ok.ensures.ok in
    let w = writing g.O.Sink.held g.O.Sink.faults c.args.out.now c.put_layout.new.out in
    let put = subst (λ (notes : List Note). IsPut (layout f.head notes (shape f.tree)) c.put_layout.result w) c.deref.ensures.value c.put_layout.ensures.put in
    put_of_kind c.args.kind c.put_layout.result _ w bytes d f read is made put

pub returns-in-Err : goal.returns-in-Err
returns-in-Err g c = stop_of_kind c.args.kind c.in-Err.status _ _ c.in-Err.ensures.err (keeps_same _)
