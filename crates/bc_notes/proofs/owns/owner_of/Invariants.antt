use Rattle.bc_notes.proofs.Holders.{AreHolders}
use Rattle.bc_notes.proofs.owns.owner_of.Given as goal

abbrev pub invariant-loop-i : goal.invariant-loop-i
invariant-loop-i l = AreHolders l.products l.mask l.i l.owner
