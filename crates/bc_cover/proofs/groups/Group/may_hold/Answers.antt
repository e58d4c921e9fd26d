use Rattle.std.proofs.Common.{◌∙◌}
use Rattle.bc_cover.proofs.PlaceFacts.{may_hold_told}
use Rattle.bc_cover.proofs.groups.Group.may_hold.Goals as goal

pub returns : goal.returns
returns c = λ mask like held. c.is_admitted.ensures ∙ may_hold_told c.args.pos c.args.neg c.args.self.now.alike c.args.self.now.mask mask like held
