use Rattle.bc_carved.proofs.PartFacts.{parts_cuts, parts_stand}
use Rattle.bc_carved.proofs.Sharing.{parts_share}
use Rattle.bc_carved.proofs.Rising.{places_rise}
use Rattle.bc_carved.proofs.laws.parts_law.Goals as goal

pub returns-clause-cuts : goal.returns-clause-cuts
returns-clause-cuts c = parts_cuts

pub returns-clause-stand : goal.returns-clause-stand
returns-clause-stand c = parts_stand

pub returns-clause-rise : goal.returns-clause-rise
returns-clause-rise c = places_rise

pub returns-clause-share : goal.returns-clause-share
returns-clause-share c = parts_share
