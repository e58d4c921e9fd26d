-- What the masks of the cells tell of a tree and a mesh, and of each point.
use Rattle.std.proofs.Common.{◌≡◌, ◌≢◌, ◌↔◌, ℕ, zero, suc, ◌+◌, ◌<◌, Bool, true, false, not, List, length, map, Some, refl, sym, ap, ◌∙◌, subst, inl, inr, arith, get_or}
use Rattle.std.specs.Prelude.{slice_get}
use Rattle.std.specs.List.{All, Any, Contains}
use Rattle.std.specs.Int.{bit_at}
use mathlib.Core.Bool.{beq}
use Rattle.std.proofs.lemmas.List.{length-map, get_or-map}
use Rattle.std.proofs.lemmas.List.Elements.{All-contains}
use Rattle.std.proofs.lemmas.Option.{slice_get-get_or, slice_get_within, get_or_from_slice_get}
use lib.IntN.{ℤ, pos, negsuc}
use Rattle.bc_num.specs.declared.p3.P3.{P3}
use Rattle.bc_num.specs.declared.box3.Box3.{Box3}
use Rattle.bc_num.specs.Points.{IsSamePoint3, IsReduced3, IsMultiple3}
use Rattle.bc_num.specs.Sizes.{IsLargePoint3}
use Rattle.bc_num.proofs.Combining3.{IsMultiple3_of-reduced}
use Rattle.bc_space.specs.declared.side.Side.TheVariants.{On, Above}
use Rattle.bc_space.specs.declared.plane3.Plane3.{Plane3}
use Rattle.bc_space.specs.Sides.{side_of_value}
use Rattle.bc_space.specs.Planes.{plane_value, plane_side}
use Rattle.bc_space.specs.Solid.{walls3, met3}
use Rattle.bc_space.specs.Laws.SolidLaws.{solid_factor}
use Rattle.bc_space.specs.Regions.{mask_of}
use Rattle.bc_solid.specs.Facets.{Facet, IsOff3}
use Rattle.bc_solid.specs.Boxes3.{IsInside3}
use Rattle.bc_parity.specs.Faces.{is_odd3_at, Odd3}
use Rattle.bc_parity.specs.FaceLaws.{CellLaw3}
use Rattle.bc_natural.specs.Planes.{IsNearBox3}
use Rattle.bc_natural.proofs.Masks.{bit_of_mask}
use Rattle.bc_cells.proofs.Masks.{mask_alike, same_sides}
use Rattle.bc_natural.proofs.FirstSeen.{contains_at}
use Rattle.bc_cells.specs.Cells.{AreCells, IsCell, Cell3}
use Rattle.bc_tree.specs.declared.frame.Frame3.{Frame3}
use Rattle.bc_tree.specs.declared.tree.Leaf.{Leaf}
use Rattle.bc_tree.specs.declared.tree.Leaf.TheVariants.{Slab, Strip, Disc, Block, Tile}
use Rattle.bc_tree.specs.Shape.{Shape, AllLeaves}
use Rattle.bc_tree.specs.Leaves.{IsLeaf, IsFrame3, InSlab, InLeaf3}
use Rattle.bc_tree.specs.Holds.{Holds3}
use Rattle.bc_tree.specs.Near.{rise3}
use Rattle.bc_tree.proofs.Half.{slab_half}
use Rattle.bc_audit.specs.SlabPlanes.{slabs, ArePlanesWith}
use Rattle.bc_audit.specs.Blocks.{is_of_box, every}
use Rattle.bc_audit.specs.Told.{leaf_told, literal_from, told_by, holds_by}
use Rattle.bc_audit.specs.Compared.{IsCompared}
use Rattle.bc_audit.specs.declared.verdict.Verdict.{Verdict}
use Rattle.bc_audit.specs.declared.verdict.Verdict.TheVariants as verdicts
use Rattle.bc_audit.specs.Audits.{IsOfBox, IsOffSlab, IsAuditPoint, IsWitness, IsVerdict, Differ}
use Rattle.bc_audit.proofs.Trees.{IsToldOf, told_is, every_is, leaves_by, OfSlab, leaves_from_slabs, slabs_from_leaves}
use Rattle.bc_audit.proofs.Sides.{IsOneOf, one_of, slab_side, off_plane, off_rise}
use Rattle.bc_audit.proofs.PlaneLists.{face_there, slab_there, planes_all}
use Rattle.bc_audit.proofs.Points.{walls_from_inside, inside_from_walls, in_block, same_box, near_point}

-- ---- blocks

box_leaf : (box : Box3) (l : Leaf) → (is_of_box box l ≡ true) ↔ IsOfBox box l
box_leaf box (Block b) = same_box b box
box_leaf box (Slab f) = (λ t. tt, λ t. refl)
box_leaf box (Strip f) = (λ t. tt, λ t. refl)
box_leaf box (Disc d) = (λ t. tt, λ t. refl)
box_leaf box (Tile b) = (λ t. tt, λ t. refl)

pub of_box : (box : Box3) (s : Shape) → (every (is_of_box box) s ≡ true) ↔ AllLeaves (IsOfBox box) s
of_box box s = every_is (IsOfBox box) (is_of_box box) (box_leaf box) s

-- ---- slabs of a tree whose leaves are within their ranges

leaf_frame : (l : Leaf) → IsLeaf l → Unit {0} → OfSlab IsFrame3 l
leaf_frame (Slab f) h t = h
leaf_frame (Strip f) h t = tt
leaf_frame (Disc d) h t = tt
leaf_frame (Block b) h t = tt
leaf_frame (Tile b) h t = tt

leaf_unit : (l : Leaf) → IsLeaf l → IsLeaf l → Unit {0}
leaf_unit l h k = tt

pub frames : (s : Shape) → AllLeaves IsLeaf s → All IsFrame3 (slabs s)
frames s h = slabs_from_leaves IsFrame3 s (leaves_by IsLeaf (λ l. Unit {0}) (OfSlab IsFrame3) leaf_frame s h (leaves_by IsLeaf IsLeaf (λ l. Unit {0}) leaf_unit s h h))

-- ---- sides

value_off : (v : ℤ) → v ≢ pos 0 → side_of_value v ≢ On
value_off (pos zero) h e = h refl
value_off (pos (suc n)) h e = cc
value_off (negsuc n) h e = cc

chained : {A B C : Type 0} → A ↔ B → B ↔ C → A ↔ C
chained f g = (λ a. g.0 (f.0 a), λ c. f.1 (g.1 c))

back : {A B : Type 0} → A ↔ B → B ↔ A
back f = (f.1, f.0)

any_contained : {X : Type 0} (P : X → Type 0) (xs : List X) → Any P xs → (x : X) × Contains xs x × P x
any_contained P xs (k, x, l, e, h) = (x, (k, l, e), h)

module _ (fs : List Facet) (s : Shape) (box : Box3) (planes : List Plane3)
    (law : CellLaw3 fs) (near : IsNearBox3 box) (leaves : AllLeaves IsLeaf s) (boxes : AllLeaves (IsOfBox box) s) (are : ArePlanesWith fs s planes) where
  -- p is a point of the mask
  pub record IsSeen (mask : ℕ) (p : P3) : Type 0 where
    pub inside : IsInside3 box p
    pub off : All (λ h. plane_side h p ≢ On) planes
    pub of_mask : mask_of plane_side planes p ≡ mask

  abbrev HasPlane : Frame3 → Type 0
  HasPlane f = (g : Plane3) × IsOneOf f g × Contains planes g

  frame_at : (f : Frame3) → Contains (slabs s) f → IsFrame3 f
  frame_at f m = All-contains IsFrame3 (slabs s) f (frames s leaves) m

  has_plane : (f : Frame3) → Contains (slabs s) f → HasPlane f
  has_plane f m =
      let g = slab_there fs s planes are f m in
      (g.0, one_of f g.0 (frame_at f m).primitive g.1, g.2)

  has_planes : AllLeaves (OfSlab HasPlane) s
  has_planes = leaves_from_slabs HasPlane s (λ i d l. has_plane _ (contains_at (slabs s) i _ (slice_get-get_or (slabs s) i d l)))

  module _ (mask : ℕ) (p : P3) (seen : IsSeen mask p) where
    slab_is : (f : Frame3) → IsFrame3 f → HasPlane f → (told_by mask (literal_from f 0 planes) ≡ true) ↔ InSlab f p
    slab_is f frame (g, one, (i, l, e)) =
        chained
        (slab_side mask f p 0 planes
        (λ k h at. subst (λ m. (bit_at m (0 + k) ≡ 1) ↔ (plane_side h p ≡ Above)) seen.of_mask
        (subst (λ j. (bit_at (mask_of plane_side planes p) j ≡ 1) ↔ (plane_side h p ≡ Above)) (omega arith) (bit_of_mask plane_side planes p k h at)))
        seen.off (i, g, l, e, one))
        (back (slab_half f frame.primitive p (near_point box f.o p near (record { x_near = frame.origin_x; y_near = frame.origin_y; z_near = frame.origin_z }) seen.inside)))

    leaf_is : (l : Leaf) → IsLeaf l → IsOfBox box l × OfSlab HasPlane l → IsToldOf InLeaf3 p (leaf_told planes mask) l
    leaf_is (Slab f) h k = slab_is f h k.1
    leaf_is (Block b) h k = (λ t. subst (λ (c : Box3). InLeaf3 (Block c) p) (sym k.0) (in_block box p seen.inside), λ t. refl)
    leaf_is (Strip f) h k = (λ t. cc, λ x. absurd x)
    leaf_is (Disc d) h k = (λ t. cc, λ x. absurd x)
    leaf_is (Tile b) h k = (λ t. cc, λ x. absurd x)

    -- what the mask tells of the tree is so at its points
    pub told_at : (holds_by (leaf_told planes mask) s ≡ true) ↔ Holds3 s p
    told_at =
        told_is InLeaf3 p (leaf_told planes mask) s
        (leaves_by IsLeaf (λ l. IsOfBox box l × OfSlab HasPlane l) (IsToldOf InLeaf3 p (leaf_told planes mask)) leaf_is s leaves
        (leaves_by (IsOfBox box) (OfSlab HasPlane) (λ l. IsOfBox box l × OfSlab HasPlane l) (λ l x y. (x, y)) s boxes has_planes))

    off_faces : IsOff3 fs p
    off_faces i d l e =
        All-contains (λ h. plane_side h p ≢ On) planes (get_or fs i d).plane seen.off
        (face_there fs s planes are (get_or fs i d) (contains_at fs i (get_or fs i d) (slice_get-get_or fs i d l))) (ap side_of_value e)

    off_of : (l : Leaf) → OfSlab HasPlane l → OfSlab HasPlane l → IsOffSlab p l
    off_of (Slab f) h k = off_rise f h.0 p h.1 (All-contains (λ h. plane_side h p ≢ On) planes h.0 seen.off h.2)
    off_of (Strip f) h k = tt
    off_of (Disc d) h k = tt
    off_of (Block b) h k = tt
    off_of (Tile b) h k = tt

    pub audit_point : IsAuditPoint fs s box p
    audit_point = record { inside = seen.inside; off = off_faces; off_slabs = leaves_by (OfSlab HasPlane) (OfSlab HasPlane) (IsOffSlab p) off_of s has_planes has_planes }

  -- points of one mask have one parity
  pub odd_like : (mask : ℕ) (p q : P3) → IsSeen mask p → IsSeen mask q → is_odd3_at fs p ≡ is_odd3_at fs q
  odd_like mask p q x y =
      law p q (off_faces mask p x) (off_faces mask q y)
      (λ i d l.
      let f = get_or fs i d in
      All-contains (λ h. plane_side h p ≡ plane_side h q) planes f.plane (same_sides plane_side planes p q x.off y.off (x.of_mask ∙ sym y.of_mask))
      (face_there fs s planes are f (contains_at fs i f (slice_get-get_or fs i d l))))

  -- a point that an audit speaks of has its mask
  pub seen_at : (p : P3) → IsAuditPoint fs s box p → IsSeen (mask_of plane_side planes p) p
  seen_at p h = record {
    inside = h.inside;
    off = planes_all fs s planes are (λ g. plane_side g p ≢ On) (λ i d l. value_off (plane_value (get_or fs i d).plane p) (h.off i d l))
        (λ f g m plane. off_plane f g p (one_of f g (frame_at f m).primitive plane) (All-contains (λ f. rise3 f p ≢ pos 0) (slabs s) f rises m));
    of_mask = refl;
  }
    where
      slab_off : (l : Leaf) → IsOffSlab p l → IsOffSlab p l → OfSlab (λ f. rise3 f p ≢ pos 0) l
      slab_off (Slab f) x y = x
      slab_off (Strip f) x y = tt
      slab_off (Disc d) x y = tt
      slab_off (Block b) x y = tt
      slab_off (Tile b) x y = tt

      rises : All (λ f. rise3 f p ≢ pos 0) (slabs s)
      rises = slabs_from_leaves (λ f. rise3 f p ≢ pos 0) s (leaves_by (IsOffSlab p) (IsOffSlab p) (OfSlab (λ f. rise3 f p ≢ pos 0)) slab_off s h.off_slabs h.off_slabs)

  module _ (cells : List Cell3) (cut : AreCells IsLargePoint3 plane_side met3 3 (walls3 box) planes cells) where
    inner_seen : (c : Cell3) → Contains cells c → IsSeen c.mask c.inner
    inner_seen c m =
        let cell : IsCell IsLargePoint3 plane_side met3 3 (walls3 box) planes c = All-contains (IsCell IsLargePoint3 plane_side met3 3 (walls3 box) planes) cells c cut.each m in
        record { inside = inside_from_walls box c.inner cell.free.inside; off = cell.free.off; of_mask = cell.of_mask }

    -- where each cell's mask tells the parity of its inner point, tree and mesh agree
    pub agree : All (λ c. is_odd3_at fs c.inner ≡ holds_by (leaf_told planes c.mask) s) cells → (p : P3) → IsAuditPoint fs s box p → Odd3 fs p ↔ Holds3 s p
    agree all p h =
        let mine = seen_at p h in
        let (c, m, e) = any_contained (λ (c : Cell3). c.mask ≡ mask_of plane_side planes p) cells (cut.some p (record { inside = walls_from_inside box p h.inside; off = mine.off })) in
        let seen : IsSeen c.mask p = record { inside = mine.inside; off = mine.off; of_mask = sym e } in
        let like : is_odd3_at fs p ≡ holds_by (leaf_told planes c.mask) s =
        odd_like c.mask p c.inner seen (inner_seen c m) ∙ All-contains (λ (c : Cell3). is_odd3_at fs c.inner ≡ holds_by (leaf_told planes c.mask) s) cells c all m in
        chained (λ odd. sym like ∙ odd, λ t. like ∙ t) (told_at c.mask p seen)

    -- where one does not, its inner point shows it, in lowest terms
    pub differs : (c : Cell3) (p : P3) → Contains cells c → IsSamePoint3 c.inner p → IsReduced3 p → is_odd3_at fs c.inner ≢ holds_by (leaf_told planes c.mask) s → IsWitness fs s box p
    differs c p m same reduced n =
        let q = inner_seen c m in
        let times : IsMultiple3 c.inner p = IsMultiple3_of-reduced c.inner p reduced same in
        let sides : (h : Plane3) → plane_side h c.inner ≡ plane_side h p = λ h. solid_factor.kept h c.inner p times in
        let walls = λ (i : ℕ) (d : Plane3) (l : i < 6). sym (sides (get_or (walls3 box) i d)) ∙ walls_from_inside box c.inner q.inside i d l in
        let seen : IsSeen c.mask p = record {
          inside = inside_from_walls box p walls;
          off = λ i d l e. q.off i d l (sides (get_or planes i d) ∙ e);
          of_mask = sym (mask_alike plane_side planes c.inner p (λ i d l. sides (get_or planes i d))) ∙ q.of_mask;
        } in
        record {
          at = audit_point c.mask p seen;
          reduced = reduced;
          differ = apart (is_odd3_at fs p) (holds_by (leaf_told planes c.mask) s) (Holds3 s p) (λ e. n (odd_like c.mask c.inner p q seen ∙ e)) (told_at c.mask p seen);
        }
      where
        apart : (a b : Bool) (H : Type 0) → a ≢ b → (b ≡ true) ↔ H → Differ (a ≡ true) H
        apart true true H n f = absurd (n refl)
        apart true false H n f = inl (refl, λ h. let e : false ≡ true = f.1 h in cc)
        apart false true H n f = inr (λ e. cc, f.0 refl)
        apart false false H n f = absurd (n refl)

    -- what is told of cell i
    told_cell : (holds : List Bool) → holds ≡ map (λ m. holds_by (leaf_told planes m) s) (map (λ (c : Cell3). c.mask) cells) → (i : ℕ) (c : Cell3) → slice_get cells i ≡ Some c
        → get_or holds i false ≡ holds_by (leaf_told planes c.mask) s
    told_cell holds e i c at =
        let l : i < length cells = slice_get_within cells i c at in
        let k : i < length (map (λ (c : Cell3). c.mask) cells) = subst (λ n. i < n) (sym (length-map cells (λ (c : Cell3). c.mask))) l in
        ap (λ hs. get_or hs i false) e ∙ get_or-map (λ m. holds_by (leaf_told planes m) s) (map (λ (c : Cell3). c.mask) cells) i 0 false k
        ∙ ap (λ m. holds_by (leaf_told planes m) s) (get_or-map (λ (c : Cell3). c.mask) cells i c 0 l ∙ ap (λ (c : Cell3). c.mask) (get_or_from_slice_get cells i c c at))

    pub verdict_of : (holds : List Bool) → holds ≡ map (λ m. holds_by (leaf_told planes m) s) (map (λ (c : Cell3). c.mask) cells) → (v : Verdict) → IsCompared fs cells holds v → IsVerdict fs s box v
    verdict_of holds e verdicts.Same h = agree (λ i d l. let at = slice_get-get_or cells i d l in h i (get_or cells i d) at ∙ told_cell holds e i (get_or cells i d) at)
    verdict_of holds e (verdicts.Differs p) h =
        differs h.cell p (contains_at cells h.i h.cell h.at) h.same h.reduced (λ k. h.apart (k ∙ sym (told_cell holds e h.i h.cell h.at)))

-- ---- the walk over the cells

pub tests_apart : (a b : Bool) → not (beq a b) ≡ true → a ≡ b → ⊥
tests_apart true true h e = cc
tests_apart true false h e = cc
tests_apart false true h e = cc
tests_apart false false h e = cc

pub tests_same : (a b : Bool) → not (beq a b) ≡ false → a ≡ b
tests_same true true h = refl
tests_same true false h = cc
tests_same false true h = cc
tests_same false false h = refl
