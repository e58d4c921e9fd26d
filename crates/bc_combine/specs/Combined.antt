-- What an operation says of two boundaries: the cells and candidates in two lists, and the points.
use Rattle.std.specs.Prelude.{◌≡◌, Bool, not, ◌&&◌, ◌||◌, List, map, filter}
use Rattle.bc_solid.specs.declared.element.Element.{Element}
use Rattle.bc_solid.specs.Facets.{Facet}
use Rattle.bc_parity.specs.Faces.{is_odd3_at}
use Rattle.bc_natural.specs.Curves.{Curves}
use Rattle.bc_discs.specs.Candidates.{Region}
use Rattle.bc_discs.specs.declared.candidate.Candidate.{Candidate}
use Rattle.bc_classify.specs.declared.split2.Split2.{Split2}
use Rattle.bc_classify.specs.declared.split3.Split3.{Split3}
use Rattle.bc_classify.specs.OddMasks.{is_odd_candidate}
use Rattle.bc_classify.specs.Splits.{marked}
use Rattle.bc_cells.specs.Cells.{Cell3}
use Rattle.bc_classify.specs.CellSplits.{marked3}
use Rattle.bc_combine.specs.declared.op.Op.{Op}
use Rattle.bc_combine.specs.declared.op.Op.TheVariants.{Union, Intersection, Difference}

-- the operation is true of a first and a second; a difference is the first and not the second
abbrev pub is_true_of : Op → Bool → Bool → Bool
is_true_of Union a b = a || b
is_true_of Intersection a b = a && b
is_true_of Difference a b = a && not b

-- ---- meshes

-- the operation is true of the parities at the cell's inner point
abbrev pub is_chosen3 : Op → List Facet → List Facet → Cell3 → Bool
is_chosen3 op fs gs c = is_true_of op (is_odd3_at fs c.inner) (is_odd3_at gs c.inner)

-- each cell is in one of the lists, in order: inside where it is chosen
pub record IsCombined3 (op : Op) (fs gs : List Facet) (cells : List Cell3) (s : Split3) : Type 0 where
  pub inside : s.inside ≡ map marked3 (filter (is_chosen3 op fs gs) cells)
  pub outside : s.outside ≡ map marked3 (filter (λ c. not (is_chosen3 op fs gs c)) cells)

-- ---- contours

-- the operation is true of the candidate's mask for the one and for the other
abbrev pub is_chosen : Op → List Element → List Element → Curves → List Region → Candidate → Bool
is_chosen op es fs t regions c = is_true_of op (is_odd_candidate es t regions c) (is_odd_candidate fs t regions c)

pub record IsCombined2 (op : Op) (es fs : List Element) (t : Curves) (regions : List Region) (all : List Candidate) (s : Split2) : Type 0 where
  pub inside : s.inside ≡ map marked (filter (is_chosen op es fs t regions) all)
  pub outside : s.outside ≡ map marked (filter (λ c. not (is_chosen op es fs t regions c)) all)
