use Rattle.std.proofs.Common.{◌≡◌, ◌≤◌, ◌+◌, sym, subst}
use Rattle.bc_tree.specs.Shape.{depth}
use Rattle.bc_tree.specs.Spells.{IsAllowed}
use Rattle.bc_factor.specs.Counts.{leaf_count}
use Rattle.bc_carve.specs.Shape.{shapes as outlines, literals_in, depths as levels}
use Rattle.bc_carved.specs.Counts.{all_blocks}
use Rattle.bc_carved.specs.Meanings.{MeansCarving}
use Rattle.bc_carved.proofs.Meaning.{means_carving}
use Rattle.bc_carved.proofs.Counted.{carved_count, carved_depth}
use Rattle.bc_carved.proofs.Allowed.{carved_allowed}
use Rattle.bc_carved.proofs.build.carved_tree.Goals as goal

pub returns-clause-meaning : goal.returns-clause-meaning
returns-clause-meaning c =
    subst (MeansCarving c.args.block c.args.leaves.now (outlines c.args.pieces.now)) (sym c.in_ok-tree_of.ensures) (means_carving c.args.block c.args.leaves.now (outlines c.args.pieces.now) c.requires)

pub returns-clause-leaves : goal.returns-clause-leaves
returns-clause-leaves c =
    subst (λ s. leaf_count s ≡ literals_in (outlines c.args.pieces.now) + all_blocks (outlines c.args.pieces.now)) (sym c.in_ok-tree_of.ensures) (carved_count c.args.block c.args.leaves.now (outlines c.args.pieces.now) c.requires)

pub returns-clause-nested : goal.returns-clause-nested
returns-clause-nested c =
    subst (λ s. depth s ≤ levels (outlines c.args.pieces.now) + 3) (sym c.in_ok-tree_of.ensures) (carved_depth c.args.block c.args.leaves.now (outlines c.args.pieces.now))

pub returns-clause-allowed : goal.returns-clause-allowed
returns-clause-allowed c kinds few = subst IsAllowed (sym c.in_ok-tree_of.ensures) (carved_allowed c.args.block c.args.leaves.now (outlines c.args.pieces.now) kinds few)
