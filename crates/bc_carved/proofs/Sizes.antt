-- How many products stand in a piece, and in one of several pieces.
use Rattle.std.proofs.Common.{ℕ, zero, suc, ◌+◌, ◌<◌, ◌≤◌, List, [], ◌∷◌, length, get_or, arith}
use Rattle.bc_carve.specs.declared.piece.Piece.{Piece as Coded}
use Rattle.bc_carve.specs.Shape.{Shape, Shapes, less, none, piece, shape, shapes}

abbrev mutual
  pub products : Shape → ℕ
  products (less pos neg holes) = 1 + products_in holes

  pub products_in : Shapes → ℕ
  products_in none = 0
  products_in (piece s ss) = products s + products_in ss

pub one_of_all : (pieces : List Coded) (i : ℕ) (d : Coded) → i < length pieces → products (shape (get_or pieces i d)) ≤ products_in (shapes pieces)
one_of_all [] i d lt = absurd (omega (arith, lt))
one_of_all (p ∷ ps) zero d lt = omega arith
one_of_all (p ∷ ps) (suc i) d lt = omega (arith, one_of_all ps i d (omega (arith, lt)))
