use Rattle.std.proofs.Common.{ℕ, rules, subst}
use Rattle.bc_cover.specs.Groups.{AreGroupsTo}
use Rattle.bc_cover.proofs.PlaceFacts.{groups_push}
use Rattle.bc_cover.proofs.groups.groups_of.Goals as goal

pub loop-start-preserved : goal.loop-start-preserved
loop-start-preserved c =
    let P : ℕ → Type 0 = λ e. AreGroupsTo c.args.masks.now 0 c.push.new.self.items e in
    record {
      within = search rules;
      groups = subst P c.group_of.ensures.end (rw c.in_ok-push.ensures.items (groups_push c.args.masks.now 0 c.loop-start.start c.loop-start.groups.items c.group_of.result c.loop-start.invariant.groups c.group_of.ensures.group));
    }
