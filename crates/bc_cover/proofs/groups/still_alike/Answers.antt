use Rattle.bc_cover.proofs.PlaceFacts.{alike_fewer, alike_both}
use Rattle.bc_cover.proofs.groups.still_alike.Goals as goal

pub returns-clause-fewer : goal.returns-clause-fewer
returns-clause-fewer c = λ any h. alike_fewer c.args.alike c.args.mask c.args.other any h

pub returns-clause-both : goal.returns-clause-both
returns-clause-both c = alike_both c.args.alike c.args.mask c.args.other
