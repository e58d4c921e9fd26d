-- What a mask tells of a tree whose slabs' planes stand in a list: bit i is set where a point is Above plane i. Of blocks it
-- is taken that they have the point; a leaf of the plane has no point of space.
use Rattle.std.specs.Prelude.{ℕ, ◌+◌, ℤ, neg_ℤ, ◌+ℤ◌, ◌*ℤ◌, Bool, true, false, not, ◌&&◌, ◌||◌, nat_eq, List, [], ◌∷◌, Option, Some, None, if◌then◌else◌}
use mathlib.Core.Bool.{beq}
use Rattle.std.specs.Int.{bit_at}
use Rattle.std.specs.Ordering.{int_eq}
use Rattle.bc_space.specs.declared.plane3.Plane3.{Plane3}
use Rattle.bc_tree.specs.declared.frame.Frame3.{Frame3}
use Rattle.bc_tree.specs.declared.tree.Leaf.{Leaf}
use Rattle.bc_tree.specs.declared.tree.Leaf.TheVariants.{Slab, Strip, Disc, Block, Tile}
use Rattle.bc_tree.specs.Shape.{Shape, leaf, union, meet, cut, Shapes, none, child}
use Rattle.bc_audit.specs.declared.literal.Literal.{Literal}

-- how far the origin is along the normal, times the length of the normal
abbrev pub offset : Frame3 → ℤ
offset f = f.n.x *ℤ f.o.x +ℤ f.n.y *ℤ f.o.y +ℤ f.n.z *ℤ f.o.z

-- the numbers of the plane are a, b, c and d
abbrev pub is_plane : Plane3 → ℤ → ℤ → ℤ → ℤ → Bool
is_plane h a b c d = int_eq h.a a && (int_eq h.b b && (int_eq h.c c && int_eq h.d d))

-- the plane is that of the slab, with the slab on the side Above; and with the slab on the other side
abbrev pub is_facing : Frame3 → Plane3 → Bool
is_facing f h = is_plane h f.n.x f.n.y f.n.z (offset f)

abbrev pub is_turned : Frame3 → Plane3 → Bool
is_turned f h = is_plane h (neg_ℤ f.n.x) (neg_ℤ f.n.y) (neg_ℤ f.n.z) (neg_ℤ (offset f))

abbrev pub has_bit : ℕ → ℕ → Bool
has_bit mask i = nat_eq (bit_at mask i) 1

-- the side of the first plane that is the slab's, where the first of the planes has the number i
abbrev pub literal_from : Frame3 → ℕ → List Plane3 → Option Literal
literal_from f i [] = None
literal_from f i (h ∷ hs) = if is_facing f h then Some (record { plane = i; above = true }) else (if is_turned f h then Some (record { plane = i; above = false }) else literal_from f (i + 1) hs)

-- the mask is on the side of the literal
abbrev pub told_by : ℕ → Option Literal → Bool
told_by mask None = false
told_by mask (Some l) = beq (has_bit mask l.plane) l.above

abbrev pub leaf_told : List Plane3 → ℕ → Leaf → Bool
leaf_told planes mask (Slab f) = told_by mask (literal_from f 0 planes)
leaf_told planes mask (Block b) = true
leaf_told planes mask (Strip f) = false
leaf_told planes mask (Disc d) = false
leaf_told planes mask (Tile b) = false

-- whether a tree holds, where `test` says which leaves do
abbrev mutual
  pub holds_by : (Leaf → Bool) → Shape → Bool
  holds_by test (leaf l) = test l
  holds_by test (union kids) = some_holds test kids
  holds_by test (meet kids) = each_holds test kids
  holds_by test (cut first kids) = holds_by test first && not (some_holds test kids)

  pub some_holds : (Leaf → Bool) → Shapes → Bool
  some_holds test none = false
  some_holds test (child s ss) = holds_by test s || some_holds test ss

  pub each_holds : (Leaf → Bool) → Shapes → Bool
  each_holds test none = true
  each_holds test (child s ss) = holds_by test s && each_holds test ss
