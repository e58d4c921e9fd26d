-- The tests of axis leaves decide which leaves these are.
use Rattle.std.proofs.Common.{◌≡◌, ◌&&◌}
use Rattle.std.proofs.lemmas.Bool.Decides.{Decides-int_eq, Decides-and, Decides-or, Decides-like}
use Rattle.std.specs.Bool.{Decides}
use Rattle.std.specs.Prelude.{ℤ, pos, negsuc}
use Rattle.std.specs.Ordering.{int_eq}
use Rattle.bc_num.specs.declared.v2.V2.{V2}
use Rattle.bc_num.specs.declared.v3.V3.{V3}
use Rattle.bc_tree.specs.declared.tree.Leaf.{Leaf}
use Rattle.bc_tree.specs.declared.tree.Leaf.TheVariants.{Slab, Strip, Disc, Block, Tile}
use Rattle.bc_tree.specs.Axis.{IsUnit, IsAxis, IsAxis2, IsAxis3, is_unit, is_zero, is_along, is_axis, is_axis2, is_axis3}

unit_test : (z : ℤ) → Decides (is_unit z) (IsUnit z)
unit_test z = Decides-or (int_eq z (pos 1)) (int_eq z (negsuc 0)) (Decides-int_eq z (pos 1)) (Decides-int_eq z (negsuc 0))

zero_test : (z : ℤ) → Decides (is_zero z) (z ≡ pos 0)
zero_test z = Decides-int_eq z (pos 0)

along_test : (a b c : ℤ) → Decides (is_along a b c) (IsUnit a × (b ≡ pos 0) × (c ≡ pos 0))
along_test a b c =
    Decides-like (is_along a b c) (λ h. (h.0, h.1.0, h.1.1)) (λ h. (h.0, (h.1, h.2)))
    (Decides-and (is_unit a) (is_zero b && is_zero c) (unit_test a) (Decides-and (is_zero b) (is_zero c) (zero_test b) (zero_test c)))

pub axis3_test : (n : V3) → Decides (is_axis3 n) (IsAxis3 n)
axis3_test n =
    Decides-or _ _ (along_test n.x n.y n.z) (Decides-or _ _ (along_test n.y n.x n.z) (along_test n.z n.x n.y))

pub axis2_test : (u : V2) → Decides (is_axis2 u) (IsAxis2 u)
axis2_test u =
    Decides-or _ _ (Decides-and (is_unit u.x) (is_zero u.y) (unit_test u.x) (zero_test u.y)) (Decides-and (is_unit u.y) (is_zero u.x) (unit_test u.y) (zero_test u.x))

pub axis_test : (l : Leaf) → Decides (is_axis l) (IsAxis l)
axis_test (Slab f) = axis3_test f.n
axis_test (Strip f) = axis2_test f.u
axis_test (Disc d) = (λ e. cc e, λ a. absurd a)
axis_test (Block b) = (λ e. cc e, λ a. absurd a)
axis_test (Tile b) = (λ e. cc e, λ a. absurd a)
