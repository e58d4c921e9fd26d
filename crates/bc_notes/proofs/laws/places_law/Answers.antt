use Rattle.bc_notes.proofs.Places.{places_law}
use Rattle.bc_notes.proofs.laws.places_law.Goals as goal

pub returns : goal.returns
returns c = places_law
