-- The table of leaves, a row for each way to write one, and the leaf that some numbers say.
use Rattle.std.specs.Prelude.{◌≡◌, ◌⊎◌, ◌||◌, ℕ, zero, suc, ◌%◌, Bool, true, false, ◌&&◌, nat_eq, nat_le, nat_abs, get_or, List, [], ◌∷◌, Option, Some, None, ℤ, pos, negsuc, neg_ℤ, ◌+ℤ◌, ◌-ℤ◌, ◌<ℤ◌, int_le, if◌then◌else◌}
use Rattle.std.specs.Option.{option_or}
use Rattle.std.specs.Ordering.{int_eq}
use mathlib.Core.Path.{sym, refl, subst}
use lib.Signed.{lt_z}
use lib.Dec.{T}
use lib.Pointwise.{pointwise}
use Rattle.bc_algebra.specs.Within.{IsWithin}
use Rattle.bc_num.specs.declared.v2.V2.{V2}
use Rattle.bc_num.specs.declared.v3.V3.{V3}
use Rattle.bc_tree.specs.declared.tree.Leaf.{Leaf}
use Rattle.bc_tree.specs.declared.tree.Leaf.TheVariants as leaves
use Rattle.bc_tree.specs.Leaves.{u_of, v_of, normal_of, IsBetween, IsLeaf}
use Rattle.bc_tree.specs.Axis.{IsAxis, is_axis, corner_of3, sides_of3, corner_of2, sides_of2}
use Rattle.bc_read.specs.declared.part.Form.{Form}
use Rattle.bc_read.specs.declared.part.Form.TheVariants.{Slab, Strip, Disc, Block, Tile}

-- ---- the table of leaves

-- a way to write a leaf: its form, and its numbers in the order in which its tokens say them
pub record LeafRow : Type 0 where
  pub form : Form
  pub numbers : List ℤ

-- the four rows of the matrix (u v n o), then those of `translate` and `cube`
abbrev pub slab_numbers : V3 → V3 → V3 → V3 → List ℤ
slab_numbers o u v n =
    u.x ∷ v.x ∷ n.x ∷ o.x ∷ u.y ∷ v.y ∷ n.y ∷ o.y ∷ u.z ∷ v.z ∷ n.z ∷ o.z ∷ pos 0 ∷ pos 0 ∷ pos 0 ∷ pos 1
    ∷ negsuc 8191 ∷ negsuc 8191 ∷ pos 0 ∷ pos 16384 ∷ pos 16384 ∷ pos 8192 ∷ []

-- the four rows of the matrix (u n 0 o), then those of `translate` and `square`
abbrev pub strip_numbers : V2 → V2 → V2 → List ℤ
strip_numbers o u n =
    u.x ∷ n.x ∷ pos 0 ∷ o.x ∷ u.y ∷ n.y ∷ pos 0 ∷ o.y ∷ pos 0 ∷ pos 0 ∷ pos 1 ∷ pos 0 ∷ pos 0 ∷ pos 0 ∷ pos 0 ∷ pos 1
    ∷ negsuc 8191 ∷ pos 0 ∷ pos 0 ∷ pos 16384 ∷ pos 8192 ∷ []

-- the long way to write a leaf
abbrev pub row : Leaf → LeafRow
row (leaves.Slab f) = record { form = Slab; numbers = slab_numbers f.o (u_of f.n) (v_of f.n) f.n }
row (leaves.Strip f) = record { form = Strip; numbers = strip_numbers f.o f.u (normal_of f.u) }
row (leaves.Disc d) = record { form = Disc; numbers = d.c.x ∷ d.c.y ∷ pos 0 ∷ d.r2 ∷ [] }
row (leaves.Block b) = record { form = Block; numbers = b.x0 ∷ b.y0 ∷ b.z0 ∷ (b.x1 -ℤ b.x0) ∷ (b.y1 -ℤ b.y0) ∷ (b.z1 -ℤ b.z0) ∷ [] }
row (leaves.Tile b) = record { form = Tile; numbers = b.x0 ∷ b.y0 ∷ pos 0 ∷ (b.x1 -ℤ b.x0) ∷ (b.y1 -ℤ b.y0) ∷ [] }

abbrev pub form_of : Leaf → Form
form_of l = (row l).form

abbrev pub numbers_of : Leaf → List ℤ
numbers_of l = (row l).numbers

-- of the least corner c and the sides a: those of `translate`, then those of `cube`
abbrev pub box3_numbers : V3 → V3 → List ℤ
box3_numbers c a = c.x ∷ c.y ∷ c.z ∷ a.x ∷ a.y ∷ a.z ∷ []

-- those of `translate`, then those of `square`
abbrev pub box2_numbers : V2 → V2 → List ℤ
box2_numbers c a = c.x ∷ c.y ∷ pos 0 ∷ a.x ∷ a.y ∷ []

-- the short way to write an axis leaf, as a block or tile; of every other leaf the long way again
abbrev pub short_row : Leaf → LeafRow
short_row (leaves.Slab f) = record { form = Block; numbers = box3_numbers (corner_of3 f.o f.n) (sides_of3 f.n) }
short_row (leaves.Strip f) = record { form = Tile; numbers = box2_numbers (corner_of2 f.o (normal_of f.u)) (sides_of2 (normal_of f.u)) }
short_row (leaves.Disc d) = row (leaves.Disc d)
short_row (leaves.Block b) = row (leaves.Block b)
short_row (leaves.Tile b) = row (leaves.Tile b)

abbrev pub short_form : Leaf → Form
short_form l = (short_row l).form

abbrev pub short_numbers : Leaf → List ℤ
short_numbers l = (short_row l).numbers

-- ---- what numbers say

-- the form and the numbers are those of the leaf's long row, and the leaf is within its ranges
pub record LongSays (form : Form) (ns : List ℤ) (l : Leaf) : Type 0 where
  pub form_is : form ≡ form_of l
  pub numbers : ns ≡ numbers_of l
  pub in_range : IsLeaf l

-- the leaf is an axis leaf, and the numbers are those of its short form
pub record ShortSays (form : Form) (ns : List ℤ) (l : Leaf) : Type 0 where
  pub axis : IsAxis l
  pub form_is : form ≡ short_form l
  pub numbers : ns ≡ short_numbers l
  pub in_range : IsLeaf l

-- in either spelling
abbrev pub Says : Form → List ℤ → Leaf → Type 0
Says form ns l = LongSays form ns l ⊎ ShortSays form ns l

-- ---- tests of ranges

abbrev pub is_near : ℕ → ℤ → Bool
is_near n z = nat_le (nat_abs z) n

abbrev pub is_between : ℤ → ℤ → ℤ → Bool
is_between low z high = int_le low z && int_le z high

-- by Euclid's algorithm in at most k steps
abbrev pub gcd_within : ℕ → ℕ → ℕ → ℕ
gcd_within zero a b = a
gcd_within (suc k) a b = if nat_eq b 0 then a else gcd_within k b (a % b)

abbrev pub gcd : ℕ → ℕ → ℕ
gcd a b = gcd_within (suc b) a b

abbrev pub is_primitive2 : V2 → Bool
is_primitive2 v = nat_eq (gcd (nat_abs v.x) (nat_abs v.y)) 1

abbrev pub is_primitive3 : V3 → Bool
is_primitive3 v = nat_eq (gcd (gcd (nat_abs v.x) (nat_abs v.y)) (nat_abs v.z)) 1

abbrev pub is_leaf : Leaf → Bool
is_leaf (leaves.Slab f) =
    is_near 1023 f.o.x && (is_near 1023 f.o.y && (is_near 1023 f.o.z
    && (is_near 8388607 f.n.x && (is_near 8388607 f.n.y && (is_near 8388607 f.n.z && is_primitive3 f.n)))))
is_leaf (leaves.Strip f) = is_near 1023 f.o.x && (is_near 1023 f.o.y && (is_near 2046 f.u.x && (is_near 2046 f.u.y && is_primitive2 f.u)))
is_leaf (leaves.Disc d) = is_near 1023 d.c.x && (is_near 1023 d.c.y && is_between (pos 1) d.r2 (pos 8372232))
is_leaf (leaves.Block b) =
    is_near 4096 b.x0 && (is_near 4096 b.y0 && (is_near 4096 b.z0
    && (is_between (pos 1) (b.x1 -ℤ b.x0) (pos 8191) && (is_between (pos 1) (b.y1 -ℤ b.y0) (pos 8191) && is_between (pos 1) (b.z1 -ℤ b.z0) (pos 8191)))))
is_leaf (leaves.Tile b) =
    is_near 4096 b.x0 && (is_near 4096 b.y0 && (is_between (pos 1) (b.x1 -ℤ b.x0) (pos 8191) && is_between (pos 1) (b.y1 -ℤ b.y0) (pos 8191)))

-- a corner's number and the side that begins there, of a block or a tile
pub record IsSideFrom (x a : ℤ) : Type 0 where
  pub near : IsWithin 4096 x
  pub side : IsBetween (pos 1) a (pos 8191)

-- ---- the leaf of some numbers

-- what stands on a < b, where that holds
abbrev pub less_by : {A : Type 0} (a b : ℤ) (c : Bool) → lt_z a b ≡ c → (a <ℤ b → Option A) → Option A
less_by a b true e f = f (record { lt = subst T (sym e) tt })
less_by a b false e f = None

abbrev pub where_less : {A : Type 0} (a b : ℤ) → (a <ℤ b → Option A) → Option A
where_less a b f = less_by a b (lt_z a b) refl f

abbrev pub disc_at : ℤ → ℤ → ℤ → Option Leaf
disc_at x y r2 = where_less (pos 0) r2 (λ proper. Some (leaves.Disc (record { c = record { x = x; y = y }; r2 = r2; proper = proper })))

abbrev pub tile_at : ℤ → ℤ → ℤ → ℤ → Option Leaf
tile_at x y a b =
    where_less x (x +ℤ a) (λ wide. where_less y (y +ℤ b) (λ high.
    Some (leaves.Tile (record { x0 = x; y0 = y; x1 = x +ℤ a; y1 = y +ℤ b; wide = wide; high = high }))))

abbrev pub block_at : ℤ → ℤ → ℤ → ℤ → ℤ → ℤ → Option Leaf
block_at x y z a b c =
    where_less x (x +ℤ a) (λ wide. where_less y (y +ℤ b) (λ deep. where_less z (z +ℤ c) (λ high.
    Some (leaves.Block (record { x0 = x; y0 = y; z0 = z; x1 = x +ℤ a; y1 = y +ℤ b; z1 = z +ℤ c; wide = wide; deep = deep; high = high })))))

-- the only leaf that the numbers can say in this form
abbrev pub candidate : Form → List ℤ → Option Leaf
candidate Slab ns = Some (leaves.Slab (record { o = record { x = get_or ns 3 (pos 0); y = get_or ns 7 (pos 0); z = get_or ns 11 (pos 0) }; n = record { x = get_or ns 2 (pos 0); y = get_or ns 6 (pos 0); z = get_or ns 10 (pos 0) } }))
candidate Strip ns = Some (leaves.Strip (record { o = record { x = get_or ns 3 (pos 0); y = get_or ns 7 (pos 0) }; u = record { x = get_or ns 0 (pos 0); y = get_or ns 4 (pos 0) } }))
candidate Disc ns = disc_at (get_or ns 0 (pos 0)) (get_or ns 1 (pos 0)) (get_or ns 3 (pos 0))
candidate Block ns = block_at (get_or ns 0 (pos 0)) (get_or ns 1 (pos 0)) (get_or ns 2 (pos 0)) (get_or ns 3 (pos 0)) (get_or ns 4 (pos 0)) (get_or ns 5 (pos 0))
candidate Tile ns = tile_at (get_or ns 0 (pos 0)) (get_or ns 1 (pos 0)) (get_or ns 3 (pos 0)) (get_or ns 4 (pos 0))

abbrev pub checked : List ℤ → Option Leaf → Option Leaf
checked ns None = None
checked ns (Some l) = if pointwise int_eq ns (numbers_of l) && is_leaf l then Some l else None

-- the leaf whose long form this is
abbrev pub long_of : Form → List ℤ → Option Leaf
long_of form ns = checked ns (candidate form ns)

-- of a corner's number and the side from there: the only component that the normal can have along this axis, and the only
-- number that the origin can have
abbrev pub component_of : ℤ → ℤ → ℤ
component_of x a = if int_eq a (pos 16384) then pos 0 else (if is_near 1023 x then pos 1 else negsuc 0)

abbrev pub origin_of : ℤ → ℤ → ℤ
origin_of x n = if int_eq n (pos 1) || lt_z (pos 0) x then x else x +ℤ pos 8192

-- the only axis slab of these numbers, or none
abbrev pub box3_at : ℤ → ℤ → ℤ → ℤ → ℤ → ℤ → Leaf
box3_at x y z a b c =
    let n : V3 = record { x = component_of x a; y = component_of y b; z = component_of z c } in
    leaves.Slab (record { o = record { x = origin_of x n.x; y = origin_of y n.y; z = origin_of z n.z }; n = n })

-- the direction of which n is the normal
abbrev pub direction_of : V2 → V2
direction_of n = record { x = n.y; y = neg_ℤ n.x }

abbrev pub box2_at : ℤ → ℤ → ℤ → ℤ → Leaf
box2_at x y a b =
    let n : V2 = record { x = component_of x a; y = component_of y b } in
    leaves.Strip (record { o = record { x = origin_of x n.x; y = origin_of y n.y }; u = direction_of n })

abbrev pub short_candidate : Form → List ℤ → Option Leaf
short_candidate Block ns = Some (box3_at (get_or ns 0 (pos 0)) (get_or ns 1 (pos 0)) (get_or ns 2 (pos 0)) (get_or ns 3 (pos 0)) (get_or ns 4 (pos 0)) (get_or ns 5 (pos 0)))
short_candidate Tile ns = Some (box2_at (get_or ns 0 (pos 0)) (get_or ns 1 (pos 0)) (get_or ns 3 (pos 0)) (get_or ns 4 (pos 0)))
short_candidate Slab ns = None
short_candidate Strip ns = None
short_candidate Disc ns = None

abbrev pub short_checked : List ℤ → Option Leaf → Option Leaf
short_checked ns None = None
short_checked ns (Some l) = if is_axis l && (pointwise int_eq ns (short_numbers l) && is_leaf l) then Some l else None

-- the axis leaf whose short form this is
abbrev pub short_of : Form → List ℤ → Option Leaf
short_of form ns = short_checked ns (short_candidate form ns)

-- the leaf that the numbers say in this form
abbrev pub leaf_of : Form → List ℤ → Option Leaf
leaf_of form ns = option_or (long_of form ns) (short_of form ns)

-- it is the leaf that is said, and there is none where none is
abbrev pub TellsBy : (Form → List ℤ → Leaf → Type 0) → Option Leaf → Form → List ℤ → Type 0
TellsBy S None form ns = (l : Leaf) → S form ns l → ⊥
TellsBy S (Some l) form ns = S form ns l

abbrev pub Tells : Option Leaf → Form → List ℤ → Type 0
Tells o form ns = TellsBy Says o form ns

abbrev pub LongTells : Option Leaf → Form → List ℤ → Type 0
LongTells o form ns = TellsBy LongSays o form ns

abbrev pub ShortTells : Option Leaf → Form → List ℤ → Type 0
ShortTells o form ns = TellsBy ShortSays o form ns
