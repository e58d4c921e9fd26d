-- A factored tree of a boundary's division means the boundary, and its layout is a text of it.
use Rattle.std.proofs.Common.{◌≡◌, ◌≤◌, ◌<◌, ◌+◌, ◌-◌, ◌^◌, ℕ, Bool, true, false, List, [], ◌∷◌, length, if◌then◌else◌, refl, sym, ap, ◌∙◌, subst, ⊎_elim, inl, inr, arith, All}
use Rattle.std.specs.Prelude.{◌↔◌}
use Rattle.std.specs.List.{Contains}
use Rattle.std.specs.Int.{bit_at}
use Rattle.std.specs.Io.KnownBytes.{Keeps}
use Rattle.std.proofs.lemmas.Bool.{eq-eqb}
use Rattle.std.proofs.lemmas.List.Elements.{All-nil, All-cons, All-map, All-contains}
use Rattle.std.proofs.lemmas.Nat.Bits.{bit_at_ones}
use Rattle.bc_cover.specs.declared.term.Term.{Term}
use Rattle.bc_tree.specs.declared.tree.Leaf.{Leaf}
use Rattle.bc_tree.specs.Leaves.{IsLeaf, IsFlat, IsSpaceLeaf}
use Rattle.bc_tree.specs.Shape.{Shape, leaf, shape, shapes_of, EachLeaf}
use Rattle.bc_tree.specs.Holds.{HoldsBy}
use Rattle.bc_tree.specs.Cuts.{picked, cover_shape}
use Rattle.bc_tree.specs.Spells.{Spells, IsAllowed}
use Rattle.bc_tree.proofs.OneTree.{spells_one_tree}
use Rattle.bc_factor.specs.Factored.{factored_shape}
use Rattle.bc_factor.specs.Counts.{leaf_count}
use Rattle.bc_factor.specs.Meanings.{HoldAlike, AreOfOneKind}
use Rattle.bc_text.specs.declared.note.Head.{Head}
use Rattle.bc_text.specs.Layout.{layout}
use Rattle.bc_text.proofs.Texts.{layout_spells, head_lines_first}
use Rattle.bc_formula.specs.declared.terms.Division.{Division}
use Rattle.bc_formula.specs.Geometry.{Geometry}
use Rattle.bc_formula.specs.ContourGeometry.{contours}
use Rattle.bc_formula.specs.MeshGeometry.{meshes}
use Rattle.bc_formula.specs.Headline.{Means}
use Rattle.bc_formula.specs.Divisions.{IsDivision}
use Rattle.bc_formula.specs.Shown.{masks_of}
use Rattle.bc_formula.proofs.Formulas.{means}
use Rattle.bc_pieces.proofs.OneKind.{of_one_kind}
use Rattle.bc_status.specs.declared.status.Status.{Status}
use Rattle.bc_top.specs.declared.factor.Factored.{Factored}
use Rattle.bc_top.specs.Streams.{Reading, Writing, IsRead}
use Rattle.bc_top.specs.Stages.{Stops, IsPut}
use Rattle.bc_top.specs.Texts.{Grammar}
use Rattle.bc_top.specs.Promises.{Fulfils}
use Rattle.bc_top.specs.Converts.{IsConvertRefusal}
use Rattle.bc_top.specs.FactoredFrom.{IsFactoredFrom}
use Rattle.bc_top.specs.Factors.{IsFactoredTree, DescribesFactored, IsFactoredOf, IsFactored, factors}
use Rattle.bc_top.proofs.Answering.{IsSettled, boundary_stop, boundary_put}

-- ---- the tree

-- trees that hold alike do so at each point of this kind
abbrev pub HoldsAlike : {B P X : Type 0} → Geometry B P X → Type 0
HoldsAlike {B} {P} {X} k = (s t : Shape) → HoldAlike s t → (p : P) → HoldsBy k.in_leaf s p ↔ HoldsBy k.in_leaf t p

pub alike2 : HoldsAlike contours
alike2 s t h p = h.in_plane p

pub alike3 : HoldsAlike meshes
alike3 s t h p = h.in_space p

module _ {B P X : Type 0} (k : Geometry B P X) (b : B) (box : X) (d : Division) (f : Factored) (is : IsDivision k k.has_mask b box d) (made : IsFactoredFrom d f) (alike : HoldsAlike k) where
  meaning : Means k b box (shape f.tree)
  meaning =
      let plain : Means k b box (cover_shape d.block d.leaves made.terms) =
      subst (λ (l : Leaf). Means k b box (cover_shape l d.leaves made.terms)) (sym is.block)
      (means k b box d.leaves is.mask_at (masks_of d.inside.items) (masks_of d.outside.items) made.terms is.bits is.divided made.cover) in
      let same = alike (shape f.tree) (cover_shape d.block d.leaves made.terms) made.alike in
      record {
        free = λ p ins off. (λ h. (plain.free p ins off).0 ((same p).0 h), λ odd. (same p).1 ((plain.free p ins off).1 odd));
        outside_tree = λ p out h. plain.outside_tree p out ((same p).0 h);
        outside_boundary = plain.outside_boundary;
      }

  -- a mask of the list is one of the boundary
  of_list : (odd : Bool) (ms : List ℕ) (mask : ℕ) → All (λ m. k.has_mask b box odd m) ms → Contains ms mask → k.has_mask b box odd mask
  of_list odd ms mask h c = All-contains (λ m. k.has_mask b box odd m) ms mask h c

  pub factored_tree : (f.head ≡ k.head box) × IsFactoredTree k b box (shape f.tree)
  factored_tree = (
    made.head ∙ is.head,
    record {
      within = is.bits.within;
      box_of = is.bits.box_of;
      leaves = d.leaves;
      terms = made.terms;
      of_boundary = record {
        of_input = is.bits.of_input;
        odd = masks_of d.inside.items;
        even = masks_of d.outside.items;
        odd_are = λ mask. (is.parts.every_inside mask, of_list true (masks_of d.inside.items) mask (All-map (λ m. k.has_mask b box true m) (λ s. s.mask) d.inside.items is.parts.inside_masks));
        even_are = λ mask. (is.parts.every_outside mask, of_list false (masks_of d.outside.items) mask (All-map (λ m. k.has_mask b box false m) (λ s. s.mask) d.outside.items is.parts.outside_masks));
        cover = made.cover;
      };
      form = made.form ∙ ap (λ (l : Leaf). factored_shape l d.leaves made.terms) is.block;
      means = meaning;
      no_more = subst (λ (l : Leaf). leaf_count (shape f.tree) ≤ leaf_count (cover_shape l d.leaves made.terms)) is.block made.no_more;
      fewer = λ share. subst (λ (l : Leaf). leaf_count (shape f.tree) < leaf_count (cover_shape l d.leaves made.terms)) is.block (made.fewer share);
      allowed = made.allowed (subst (λ (l : Leaf). AreOfOneKind l d.leaves) (sym is.block) (of_one_kind (k.block box) d.leaves is.bits.allowed));
    },
  )

-- ---- the text

-- the layout of a factored tree is a text of it, and of no other tree
factored_text : {B P X : Type 0} (k : Geometry B P X) (b : B) (box : X) (t : Shape) → IsFactoredTree k b box t → DescribesFactored k b (layout (k.head box) [] t)
factored_text k b box t is =
    let s : Spells (layout (k.head box) [] t) t = layout_spells (k.head box) [] t is.allowed in
    let h = head_lines_first (k.head box) [] t in
    record {
      box = box;
      tree = t;
      of_boundary = is;
      layout = refl;
      spells = s;
      only = λ u v. spells_one_tree (layout (k.head box) [] t) u t v s;
      more = h.0;
      head = h.1;
    }

-- ---- the answer

module _ {B P X : Type 0} (k : Geometry B P X) (g : Grammar B) (settled : IsSettled k g) where
  pub factors_stop : (s : Status) (r : Reading) (w : Writing) → Stops g.most (IsConvertRefusal k g) r s → Keeps w.held w.grown → Fulfils (factors k g) s r w
  factors_stop s r w h e = boundary_stop k g settled (IsFactored k g) s r w h e

  pub factors_put : (s : Status) (r : Reading) (w : Writing) (bytes : List ℕ) (head : Head) (box : X) (t : Shape) → IsRead r bytes → head ≡ k.head box → IsFactoredOf k g bytes box t → IsPut (layout head [] t) s w → Fulfils (factors k g) s r w
  factors_put s r w bytes head box t h is f p =
      boundary_put k g settled (IsFactored k g) s r w bytes (layout (k.head box) [] t) h
      (record { boundary = f.boundary; of_bytes = f.of_bytes; described = factored_text k f.boundary box t f.factored })
      (subst (λ (head : Head). IsPut (layout head [] t) s w) is p)
