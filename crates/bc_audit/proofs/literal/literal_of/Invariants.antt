-- What the planes that are left tell is what all tell.
use Rattle.std.proofs.Common.{◌≡◌, drop}
use Rattle.bc_audit.specs.Told.{literal_from}
use Rattle.bc_audit.proofs.literal.literal_of.Given as goal

abbrev pub invariant-loop-i : goal.invariant-loop-i
invariant-loop-i l = literal_from l.f l.i (drop l.i l.planes) ≡ literal_from l.f 0 l.planes
