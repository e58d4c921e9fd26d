use Rattle.std.proofs.Common.{sym, subst}
use Rattle.bc_io.specs.Growing.{GrewBy}
use Rattle.bc_io.proofs.Grown.{behind}
use Rattle.bc_solid.specs.declared.contour_fault.ContourFault.{ContourFault}
use Rattle.bc_status.specs.Reports.{of_contours}
use Rattle.bc_status.proofs.lines.put_contours.Goals as goal

pub returns-in-ZeroRadius : goal.returns-in-ZeroRadius
returns-in-ZeroRadius g c = subst (λ (f : ContourFault). GrewBy g.K.Sink.held g.K.Sink.faults c.args.pen.now c.put_next.new.self (of_contours f)) (sym c.in-ZeroRadius.is) (behind c.put.ensures c.put_next.ensures)
