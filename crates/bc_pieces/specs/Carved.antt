-- What is made of a boundary's division: pieces that hold its inside masks and no outside mask, and their tree.
use Rattle.std.specs.Prelude.{◌≡◌, ◌≤◌, ◌+◌, ℕ, List, [], length}
use Rattle.bc_cover.specs.declared.term.Term.{Term}
use Rattle.bc_cover.specs.Covers.{IsCover}
use Rattle.bc_carve.specs.declared.piece.Piece.{Piece}
use Rattle.bc_carve.specs.Shape.{shapes, literals_in}
use Rattle.bc_carve.specs.Carving.{IsCarving, plain_literals}
use Rattle.bc_carve.specs.Cuts.{NoneIdle}
use Rattle.bc_carved.specs.Carved.{carved_shape}
use Rattle.bc_carved.specs.Counts.{all_blocks}
use Rattle.bc_tree.specs.Shape.{shape}
use Rattle.bc_tree.specs.Spells.{IsAllowed}
use Rattle.bc_factor.specs.Counts.{leaf_count}
use Rattle.bc_factor.specs.Meanings.{AreOfOneKind}
use Rattle.bc_formula.specs.declared.terms.Division.{Division}
use Rattle.bc_formula.specs.declared.terms.Formula.{Formula}
use Rattle.bc_formula.specs.Shown.{masks_of}

-- the pieces hold each of the inside masks and none of the outside masks; without any one literal, any one hole or any one
-- piece some of these masks comes out wrong; and they have no more literals than some plain cover of the same masks
pub record ArePiecesOf (inside outside : List ℕ) (n : ℕ) (pieces : List Piece) : Type 0 where
  pub carving : IsCarving inside outside n pieces
  pub none_idle : NoneIdle inside outside (shapes pieces)
  pub terms : List Term
  pub cover : IsCover inside outside n terms
  pub short : literals_in (shapes pieces) ≤ plain_literals terms

-- the tree is that of pieces of the division
pub record IsCarvedFrom (d : Division) (f : Formula) : Type 0 where
  pub head : f.head ≡ d.head
  pub pieces : List Piece
  pub of_division : ArePiecesOf (masks_of d.inside.items) (masks_of d.outside.items) (length d.leaves) pieces
  pub form : shape f.tree ≡ carved_shape d.block d.leaves (shapes pieces)
  pub leaves_are : leaf_count (shape f.tree) ≡ literals_in (shapes pieces) + all_blocks (shapes pieces)
  pub allowed : AreOfOneKind d.block d.leaves → IsAllowed (shape f.tree)
  pub notes : f.notes.items ≡ []
