-- Axis leaves: slabs and strips along the axes. Such a set is a closed box or rectangle, said by its least corner and its sides.
use Rattle.std.specs.Prelude.{◌≡◌, ℤ, pos, negsuc, ◌+ℤ◌, ◌-ℤ◌, ◌*ℤ◌, ◌⊎◌, Bool, false, ◌&&◌, ◌||◌, if◌then◌else◌}
use Rattle.std.specs.Ordering.{int_eq}
use Rattle.bc_num.specs.declared.v2.V2.{V2}
use Rattle.bc_num.specs.declared.v3.V3.{V3}
use Rattle.bc_num.specs.declared.p2.P2.{P2}
use Rattle.bc_num.specs.declared.p3.P3.{P3}
use Rattle.bc_tree.specs.declared.frame.Frame2.{Frame2}
use Rattle.bc_tree.specs.declared.frame.Frame3.{Frame3}
use Rattle.bc_tree.specs.declared.tree.Leaf.{Leaf}
use Rattle.bc_tree.specs.declared.tree.Leaf.TheVariants.{Slab, Strip, Disc, Block, Tile}
use Rattle.bc_tree.specs.Leaves.{IsBetween, normal_of}

-- ---- which leaves these are

-- of size 1
abbrev pub IsUnit : ℤ → Type 0
IsUnit z = (z ≡ pos 1) ⊎ (z ≡ negsuc 0)

-- one component has size 1 and the others are 0
abbrev pub IsAxis3 : V3 → Type 0
IsAxis3 n = (IsUnit n.x × (n.y ≡ pos 0) × (n.z ≡ pos 0)) ⊎ ((IsUnit n.y × (n.x ≡ pos 0) × (n.z ≡ pos 0)) ⊎ (IsUnit n.z × (n.x ≡ pos 0) × (n.y ≡ pos 0)))

abbrev pub IsAxis2 : V2 → Type 0
IsAxis2 u = (IsUnit u.x × (u.y ≡ pos 0)) ⊎ (IsUnit u.y × (u.x ≡ pos 0))

-- a slab by its normal, a strip by its direction, and no other leaf
abbrev pub IsAxis : Leaf → Type 0
IsAxis (Slab f) = IsAxis3 f.n
IsAxis (Strip f) = IsAxis2 f.u
IsAxis (Disc d) = ⊥
IsAxis (Block b) = ⊥
IsAxis (Tile b) = ⊥

-- ---- its box, an axis at a time: o is the origin's coordinate and n the normal's component

-- the least corner: o where n is 1, and o - 8192 where n is -1 or 0
abbrev pub corner_at : ℤ → ℤ → ℤ
corner_at o n = if int_eq n (pos 1) then o else o -ℤ pos 8192

-- the side: 8192 along the normal, and 16384 across it
abbrev pub side_at : ℤ → ℤ
side_at n = if int_eq n (pos 0) then pos 16384 else pos 8192

-- of the origin o and the normal n
abbrev pub corner_of3 : V3 → V3 → V3
corner_of3 o n = record { x = corner_at o.x n.x; y = corner_at o.y n.y; z = corner_at o.z n.z }

abbrev pub sides_of3 : V3 → V3
sides_of3 n = record { x = side_at n.x; y = side_at n.y; z = side_at n.z }

abbrev pub corner_of2 : V2 → V2 → V2
corner_of2 o n = record { x = corner_at o.x n.x; y = corner_at o.y n.y }

abbrev pub sides_of2 : V2 → V2
sides_of2 n = record { x = side_at n.x; y = side_at n.y }

-- x over w is from the corner c to the side a beyond it
abbrev pub IsAlongSide : ℤ → ℤ → ℤ → ℤ → Type 0
IsAlongSide c a x w = IsBetween (c *ℤ w) x ((c +ℤ a) *ℤ w)

-- p is in the closed box from the least corner with these sides
pub record InBox3 (c a : V3) (p : P3) : Type 0 where
  pub along_x : IsAlongSide c.x a.x p.x p.w
  pub along_y : IsAlongSide c.y a.y p.y p.w
  pub along_z : IsAlongSide c.z a.z p.z p.w

-- p is in the closed rectangle
pub record InBox2 (c a : V2) (p : P2) : Type 0 where
  pub along_x : IsAlongSide c.x a.x p.x p.w
  pub along_y : IsAlongSide c.y a.y p.y p.w

-- p is in the box of the slab
abbrev pub InShort3 : Frame3 → P3 → Type 0
InShort3 f p = InBox3 (corner_of3 f.o f.n) (sides_of3 f.n) p

-- p is in the rectangle of the strip
abbrev pub InShort2 : Frame2 → P2 → Type 0
InShort2 f p = InBox2 (corner_of2 f.o (normal_of f.u)) (sides_of2 (normal_of f.u)) p

-- ---- which leaves these are, as it computes

abbrev pub is_unit : ℤ → Bool
is_unit z = int_eq z (pos 1) || int_eq z (negsuc 0)

abbrev pub is_zero : ℤ → Bool
is_zero z = int_eq z (pos 0)

-- the first has size 1 and the others are 0
abbrev pub is_along : ℤ → ℤ → ℤ → Bool
is_along a b c = is_unit a && (is_zero b && is_zero c)

abbrev pub is_axis3 : V3 → Bool
is_axis3 n = is_along n.x n.y n.z || (is_along n.y n.x n.z || is_along n.z n.x n.y)

abbrev pub is_axis2 : V2 → Bool
is_axis2 u = (is_unit u.x && is_zero u.y) || (is_unit u.y && is_zero u.x)

abbrev pub is_axis : Leaf → Bool
is_axis (Slab f) = is_axis3 f.n
is_axis (Strip f) = is_axis2 f.u
is_axis (Disc d) = false
is_axis (Block b) = false
is_axis (Tile b) = false
