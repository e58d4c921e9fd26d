-- The laws of closed contours, for the elements of a profile.
use Rattle.std.proofs.Common.{List, subst}
use Rattle.bc_solid.specs.declared.element.Element.{Element}
use Rattle.bc_solid.specs.Closed.{IsProfile, joined}
use Rattle.bc_parity.specs.Laws.{StraightCellLaw, CellLaw, FlipLaw, AwayLaw, OutsideLaw}
use Rattle.bc_parity.proofs.Straight.{straight_cell_law}
use Rattle.bc_parity.proofs.Cells.{cell_law, flip_law, away_law}
use Rattle.bc_parity.proofs.Outside.{outside_law}

pub straight_cells : (es : List Element) → IsProfile es → StraightCellLaw es
straight_cells es h = subst StraightCellLaw h.whole (straight_cell_law h.contours h.closed.closed)

pub cells : (es : List Element) → IsProfile es → CellLaw es
cells es h = subst CellLaw h.whole (cell_law h.contours h.closed)

pub flips : (es : List Element) → IsProfile es → FlipLaw es
flips es h = subst FlipLaw h.whole (flip_law (joined h.contours) h.closed.proper)

pub away : (es : List Element) → IsProfile es → AwayLaw es
away es h = subst AwayLaw h.whole (away_law (joined h.contours) h.closed.proper)

pub outside : (es : List Element) → IsProfile es → OutsideLaw es
outside es h = subst OutsideLaw h.whole (outside_law h.contours h.closed)
