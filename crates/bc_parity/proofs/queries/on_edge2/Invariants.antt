use Rattle.std.proofs.Common.{◌≡◌, drop}
use Rattle.bc_solid.specs.HalfSpaces.{half_spaces}
use Rattle.bc_parity.specs.OnEdge.{is_on_any}
use Rattle.bc_parity.proofs.queries.on_edge2.Given as goal

abbrev pub invariant-loop-i : goal.invariant-loop-i
invariant-loop-i l = is_on_any (half_spaces (drop l.i l.s)) l.p ≡ is_on_any (half_spaces l.s) l.p
