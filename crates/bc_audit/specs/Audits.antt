-- What an audit of a solid tree against a closed mesh says. It decides whether the two agree at each point inside the box of
-- the mesh that is on no plane of a face and on no plane of a slab of the tree.
use Rattle.std.specs.Prelude.{◌≡◌, ◌≢◌, ◌⊎◌, ◌↔◌, ◌≤◌, ◌<◌, ℕ, pos, List, length}
use Rattle.bc_num.specs.declared.p3.P3.{P3}
use Rattle.bc_num.specs.declared.box3.Box3.{Box3}
use Rattle.bc_num.specs.Points.{IsReduced3}
use Rattle.bc_space.specs.declared.plane3.Plane3.{Plane3}
use Rattle.bc_solid.specs.Facets.{Facet, IsOff3}
use Rattle.bc_solid.specs.Boxes3.{IsBoxOf3, IsInside3}
use Rattle.bc_parity.specs.Faces.{Odd3}
use Rattle.bc_natural.specs.declared.limits.TheConstants.{MOST_PLANES}
use Rattle.bc_tree.specs.declared.tree.Leaf.{Leaf}
use Rattle.bc_tree.specs.declared.tree.Leaf.TheVariants.{Slab, Strip, Disc, Block, Tile}
use Rattle.bc_tree.specs.Shape.{Shape, AllLeaves}
use Rattle.bc_tree.specs.Leaves.{IsLeaf}
use Rattle.bc_tree.specs.Holds.{Holds3}
use Rattle.bc_tree.specs.Near.{rise3}
use Rattle.bc_audit.specs.SlabPlanes.{ArePlanesWith}
use Rattle.bc_audit.specs.declared.verdict.Verdict.{Verdict}
use Rattle.bc_audit.specs.declared.verdict.Verdict.TheVariants.{Same, Differs}
use Rattle.bc_audit.specs.declared.fault.AuditFault.{AuditFault}
use Rattle.bc_audit.specs.declared.fault.AuditFault.TheVariants.{OtherBox, TooManyPlanes, Memory}

-- the leaf is no block other than the box
abbrev pub IsOfBox : Box3 → Leaf → Type 0
IsOfBox box (Block b) = b ≡ box
IsOfBox box (Slab f) = Unit {0}
IsOfBox box (Strip f) = Unit {0}
IsOfBox box (Disc d) = Unit {0}
IsOfBox box (Tile b) = Unit {0}

-- p is not on the plane of a slab
abbrev pub IsOffSlab : P3 → Leaf → Type 0
IsOffSlab p (Slab f) = rise3 f p ≢ pos 0
IsOffSlab p (Block b) = Unit {0}
IsOffSlab p (Strip f) = Unit {0}
IsOffSlab p (Disc d) = Unit {0}
IsOffSlab p (Tile b) = Unit {0}

-- the points that an audit speaks of
pub record IsAuditPoint (fs : List Facet) (s : Shape) (box : Box3) (p : P3) : Type 0 where
  pub inside : IsInside3 box p
  pub off : IsOff3 fs p
  pub off_slabs : AllLeaves (IsOffSlab p) s

-- exactly one of the two holds
abbrev pub Differ : Type 0 → Type 0 → Type 0
Differ A B = (A × (B → ⊥)) ⊎ ((A → ⊥) × B)

-- a point that shows that the tree is not the mesh
pub record IsWitness (fs : List Facet) (s : Shape) (box : Box3) (p : P3) : Type 0 where
  pub at : IsAuditPoint fs s box p
  pub reduced : IsReduced3 p
  pub differ : Differ (Odd3 fs p) (Holds3 s p)

abbrev pub IsVerdict : List Facet → Shape → Box3 → Verdict → Type 0
IsVerdict fs s box Same = (p : P3) → IsAuditPoint fs s box p → Odd3 fs p ↔ Holds3 s p
IsVerdict fs s box (Differs p) = IsWitness fs s box p

-- what an answer tells: each block is the box of the mesh, and the planes are not too many
pub record IsAudit (fs : List Facet) (s : Shape) (v : Verdict) : Type 0 where
  pub box : Box3
  pub box_of : IsBoxOf3 fs box
  pub boxes : AllLeaves (IsOfBox box) s
  pub planes : List Plane3
  pub are_planes : ArePlanesWith fs s planes
  pub few : length planes ≤ MOST_PLANES
  pub verdict : IsVerdict fs s box v

-- some block is not the box of the mesh
pub record HasOtherBox (fs : List Facet) (s : Shape) : Type 0 where
  pub box : Box3
  pub box_of : IsBoxOf3 fs box
  pub other : AllLeaves (IsOfBox box) s → ⊥

-- each block is the box, and there are n planes in all, too many
pub record HasManyPlanes (fs : List Facet) (s : Shape) (n : ℕ) : Type 0 where
  pub box : Box3
  pub box_of : IsBoxOf3 fs box
  pub boxes : AllLeaves (IsOfBox box) s
  pub planes : List Plane3
  pub are_planes : ArePlanesWith fs s planes
  pub count : length planes ≡ n
  pub many : MOST_PLANES < n

abbrev pub IsAuditFault : List Facet → Shape → AuditFault → Type 0
IsAuditFault fs s OtherBox = HasOtherBox fs s
IsAuditFault fs s (TooManyPlanes n) = HasManyPlanes fs s n
IsAuditFault fs s Memory = Unit {0}

-- ---- one outcome

-- a mesh has one box
abbrev pub IsOneBox : Type 0
IsOneBox = (fs : List Facet) (b c : Box3) → IsBoxOf3 fs b → IsBoxOf3 fs c → b ≡ c

-- an answer and a fault exclude each other, and so do the two faults; the number of planes is one
pub record HasOneOutcome (fs : List Facet) (s : Shape) : Type 0 where
  pub no_other_box : (v : Verdict) → IsAudit fs s v → HasOtherBox fs s → ⊥
  pub few : (v : Verdict) (n : ℕ) → IsAudit fs s v → HasManyPlanes fs s n → ⊥
  pub faults : (n : ℕ) → HasOtherBox fs s → HasManyPlanes fs s n → ⊥
  pub one_number : (m n : ℕ) → HasManyPlanes fs s m → HasManyPlanes fs s n → m ≡ n

abbrev pub OneOutcome : Type 0
OneOutcome = (fs : List Facet) (s : Shape) → AllLeaves IsLeaf s → HasOneOutcome fs s
