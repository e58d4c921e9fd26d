-- Regions by half-spaces and the side of each on which the region lies.
use Rattle.std.specs.Prelude.{◌≡◌, ◌≢◌, ◌↔◌, ◌⊎◌, ℕ, ◌+◌, List, [], ◌∷◌, ◌++◌, length, map, Option, Some, slice_get}
use Rattle.std.specs.List.{All, Contains}
use Rattle.bc_space.specs.declared.side.Side.{Side}
use Rattle.bc_space.specs.declared.side.Side.TheVariants.{Below, On, Above}
use Rattle.bc_hull.specs.Choices.{IsPart, IsMeet}
use Rattle.bc_cells.specs.declared.constraint.Constraint.{Constraint}
use Rattle.bc_cells.specs.declared.cell.Cell.{Cell}

-- t is not strictly the other side
abbrev pub Toward : Side → Side → Type 0
Toward Below t = t ≢ Above
Toward On t = Unit {0}
Toward Above t = t ≢ Below

-- in the closed region
pub record IsInClosure {S P H B : Type 0} (side : H → P → Side) (constraints : List (Constraint S P H B)) (p : P) : Type 0 where
  pub toward : All (λ f. Toward f.side (side f.half p)) constraints

-- in the open region
pub record IsStrict {S P H B : Type 0} (side : H → P → Side) (constraints : List (Constraint S P H B)) (p : P) : Type 0 where
  pub at : All (λ f. side f.half p ≡ f.side) constraints

-- the half-spaces of the constraints
abbrev pub halves_of : {S P H B : Type 0} → List (Constraint S P H B) → List H
halves_of fs = map (λ f. f.half) fs

-- a corner of the region
pub record IsVertex {S P H B : Type 0} (side : H → P → Side) (met : List H → Option P) (dimension : ℕ) (constraints : List (Constraint S P H B)) (c : P) : Type 0 where
  pub meet : IsMeet met dimension (halves_of constraints) c
  pub inside : IsInClosure side constraints c

-- no element twice
abbrev pub IsOnce : {X : Type 0} → List X → Type 0
IsOnce xs = (i j : ℕ) (c : _) → slice_get xs i ≡ Some c → slice_get xs j ≡ Some c → i ≡ j

-- the list has the corners of the region, each once
pub record HasVertices {S P H B : Type 0} (side : H → P → Side) (met : List H → Option P) (dimension : ℕ) (constraints : List (Constraint S P H B)) (corners : List P) : Type 0 where
  pub exact : (c : P) → Contains corners c ↔ IsVertex side met dimension constraints c
  pub once : IsOnce corners

-- a constraint with no corner strictly on its side: then there is no point of the open region
pub record IsShut {S P H B : Type 0} (side : H → P → Side) (met : List H → Option P) (dimension : ℕ) (constraints : List (Constraint S P H B)) : Type 0 where
  pub constraint : Constraint S P H B
  pub of_constraints : Contains constraints constraint
  pub none : (c : P) → IsVertex side met dimension constraints c → side constraint.half c ≢ constraint.side

-- a common point of h and of others of the list
pub record IsMeetOn {P H : Type 0} (met : List H → Option P) (dimension : ℕ) (from : List H) (h : H) (c : P) : Type 0 where
  pub halves : List H
  pub part : IsPart halves from
  pub many : length halves + 1 ≡ dimension
  pub meet : met (halves ++ h ∷ []) ≡ Some c

-- the half-spaces of the list on whose boundary p is
abbrev pub keep_on : {H : Type 0} → Side → H → List H → List H
keep_on Below g gs = gs
keep_on On g gs = g ∷ gs
keep_on Above g gs = gs

abbrev pub through : {P H : Type 0} → (H → P → Side) → P → List H → List H
through side p [] = []
through side p (g ∷ gs) = keep_on (side g p) g (through side p gs)

-- c is met by h and by others of the list that go through a point Above h and a point Below
pub record IsCrossing {P H : Type 0} (side : H → P → Side) (met : List H → Option P) (dimension : ℕ) (from : List H) (h : H) (points : List P) (c : P) : Type 0 where
  pub high : P
  pub low : P
  pub has_high : Contains points high
  pub has_low : Contains points low
  pub above : side h high ≡ Above
  pub below : side h low ≡ Below
  pub meet : IsMeetOn met dimension (through side low (through side high from)) h c

-- new corners where h divides a region with the old corners: meets of h and others in the region, among them all that are
-- no old corners
pub record AreNew {S P H B : Type 0} (side : H → P → Side) (met : List H → Option P) (dimension : ℕ) (constraints : List (Constraint S P H B)) (h : H) (old new : List P) : Type 0 where
  pub meets : (c : P) → Contains new c → IsMeetOn met dimension (halves_of constraints) h c
  pub inside : (c : P) → Contains new c → IsInClosure side constraints c
  pub all : (c : P) → IsMeetOn met dimension (halves_of constraints) h c → IsInClosure side constraints c → Contains old c ⊎ Contains new c

-- the side of q
abbrev pub facing : {S P H B : Type 0} → (H → P → Side) → P → H → Constraint S P H B
facing side q g = record { half = g; side = side g q }

abbrev pub inward : {S P H B : Type 0} → H → Constraint S P H B
inward g = record { half = g; side = Above }

-- the constraints of a part: those of the cell of q, and then h
abbrev pub part_constraints : {S P H B : Type 0} → (H → P → Side) → List H → P → H → Side → List (Constraint S P H B)
part_constraints side gs q h s = map (facing side q) gs ++ record { half = h; side = s } ∷ []

-- a cell of that mask, whose region is that of the constraints
pub record IsCellOf {S P H B : Type 0} (small : P → Type 0) (side : H → P → Side) (met : List H → Option P) (dimension : ℕ) (constraints : List (Constraint S P H B)) (mask : ℕ) (c : Cell S P H B) : Type 0 where
  pub strict : IsStrict side constraints c.inner
  pub fits : small c.inner
  pub vertices : HasVertices side met dimension constraints c.corners
  pub of_mask : c.mask ≡ mask
