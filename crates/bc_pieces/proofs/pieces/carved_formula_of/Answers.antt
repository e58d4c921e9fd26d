use Rattle.std.proofs.Common.{◌≡◌, ◌≤◌, ◌+◌, List, refl, sym, ap, ◌∙◌, subst, arith}
use Rattle.bc_carve.specs.declared.piece.Piece.{Piece}
use Rattle.bc_carve.specs.Shape.{shapes, depths, literals_in}
use Rattle.bc_carved.specs.Carved.{carved_shape}
use Rattle.bc_carved.specs.Counts.{all_blocks}
use Rattle.bc_tree.specs.declared.tree.Leaf.{Leaf}
use Rattle.bc_tree.specs.Shape.{shape}
use Rattle.bc_tree.specs.Spells.{IsAllowed}
use Rattle.bc_factor.specs.Meanings.{AreOfOneKind}
use Rattle.bc_factor.specs.Counts.{leaf_count}
use Rattle.bc_pieces.proofs.pieces.carved_formula_of.Goals as goal

pub returns : goal.returns
returns c =
    let d = c.args.division.now in
    let pieces = c.in_ok-pieces.pieces in
    let tree = c.in_ok-carved_tree.field-0 in
    let e = c.in_ok-carved_tree.ensures in
    let leaves : c.as_slice-leaves.result.now ≡ d.leaves = c.as_slice-leaves.ensures in
    let slice : c.as_slice.result.now ≡ pieces = c.as_slice.ensures in
    let made = c.in_ok-pieces.ensures in
    record {
      head = refl;
      pieces = pieces;
      of_division = made;
      form = e.shape ∙ ap (λ (ls : List Leaf). carved_shape d.block ls (shapes c.as_slice.result.now)) leaves ∙ ap (λ (ps : List Piece). carved_shape d.block d.leaves (shapes ps)) slice;
      leaves_are = subst (λ (ps : List Piece). leaf_count (shape tree) ≡ literals_in (shapes ps) + all_blocks (shapes ps)) slice e.leaves;
      allowed = λ one_kind.
          let few : depths (shapes pieces) ≤ 20 = made.carving.nested in
          e.allowed (subst (λ (ls : List Leaf). AreOfOneKind d.block ls) (sym leaves) one_kind) (subst (λ (ps : List Piece). depths (shapes ps) ≤ 61) (sym slice) (omega (arith, few)));
      notes = c.new.ensures.items;
    }
