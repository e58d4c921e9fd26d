use Rattle.std.proofs.Common.{subst}
use Rattle.bc_notes.specs.declared.shown.Shown.{Shown}
use Rattle.bc_notes.specs.Chosen.{IsAlone}
use Rattle.bc_notes.specs.Bests.{IsSpotOf}
use Rattle.bc_notes.proofs.Choosing.{found_at, spot_where}
use Rattle.bc_notes.proofs.Holders.{owner_alone}
use Rattle.bc_notes.proofs.owns.named_own.Goals as goal

pub returns-then-owner-i : goal.returns-then-owner-i
returns-then-owner-i c = λ products owns.
    let m = c.index-inside-named.result in
    let inside = c.args.inside.now in
    let within = c.if-named-inside.false in
    let is = c.index-inside-named.is in
    let alone : IsAlone products c.args.i c.index-inside-named.result.mask = owner_alone products inside c.args.owners.now owns c.args.named m within is c.args.i c.in-Some.owner c.in-Some.is c.if-owner-i.true in
    let found = found_at (IsAlone products c.args.i) inside c.args.named m within is m.spot (spot_where (IsAlone products c.args.i m.mask) m.spot alone) in
    subst (λ (s : Shown). IsSpotOf (IsAlone products c.args.i) c.args.inside.now s.spot) is found
