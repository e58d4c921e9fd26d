use Rattle.std.proofs.Common.{◌++◌, List, map, sym, ap, ◌∙◌}
use Rattle.bc_tree.specs.declared.tree.Tree.{Tree}
use Rattle.bc_tree.specs.Shape.{shape}
use Rattle.bc_carve.specs.Shape.{shapes as outlines}
use Rattle.bc_carved.specs.Carved.{bounded, piece_shapes}
use Rattle.bc_carved.proofs.Made.{several}
use Rattle.bc_carved.proofs.build.tree_of.Goals as goal

pub returns-in_ok-within_block-in_default : goal.returns-in_ok-within_block-in_default
returns-in_ok-within_block-in_default c =
    c.in_ok-within_block-in_default.ensures
    ∙ ap (bounded c.args.block) (c.in_ok-add_pieces-in_default.ensures ∙ ap (λ (ts : List Tree). map shape ts ++ piece_shapes c.args.block c.args.leaves.now (outlines c.args.pieces.now)) c.new-parts.ensures)
    ∙ sym (several c.args.block c.args.leaves.now c.args.pieces.now c.in_default.len_at_least)
