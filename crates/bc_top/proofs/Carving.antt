-- The layout of a carved tree of a boundary is a text of it.
use Rattle.std.proofs.Common.{◌≡◌, ℕ, List, [], refl, subst}
use Rattle.std.specs.Io.KnownBytes.{Keeps}
use Rattle.bc_tree.specs.Shape.{Shape, shape}
use Rattle.bc_tree.specs.Spells.{Spells, IsAllowed}
use Rattle.bc_tree.proofs.OneTree.{spells_one_tree}
use Rattle.bc_text.specs.declared.note.Head.{Head}
use Rattle.bc_text.specs.Layout.{layout}
use Rattle.bc_text.proofs.Texts.{layout_spells, head_lines_first}
use Rattle.bc_formula.specs.declared.terms.Formula.{Formula}
use Rattle.bc_formula.specs.declared.terms.Division.{Division}
use Rattle.bc_formula.specs.Geometry.{Geometry}
use Rattle.bc_formula.specs.ContourGeometry.{contours}
use Rattle.bc_formula.specs.MeshGeometry.{meshes}
use Rattle.bc_formula.specs.Divisions.{AreMasks}
use Rattle.bc_formula.specs.Shown.{masks_of}
use Rattle.bc_pieces.specs.Carved.{IsCarvedFrom}
use Rattle.bc_pieces.specs.Carvings.{IsCarvedTree}
use Rattle.bc_pieces.proofs.Means.{carved_tree}
use Rattle.bc_status.specs.declared.status.Status.{Status}
use Rattle.bc_top.specs.Streams.{Reading, Writing, IsRead}
use Rattle.bc_top.specs.Stages.{Stops, IsPut}
use Rattle.bc_top.specs.Texts.{Grammar}
use Rattle.bc_top.specs.Promises.{Fulfils}
use Rattle.bc_top.specs.Converts.{IsConvertRefusal}
use Rattle.bc_top.specs.Carves.{DescribesCarved, IsDivisionOf, IsDivisionOfKind, StopsKind, IsCarved, carves}
use Rattle.bc_top.specs.ContourTexts.{contour_texts}
use Rattle.bc_top.specs.MeshTexts.{mesh_texts}
use Rattle.bc_top.specs.Answers.{carve_promise}
use Rattle.bc_top.specs.declared.command.Kind.{Kind}
use Rattle.bc_top.specs.declared.command.Kind.TheVariants.{Contour, Off}
use Rattle.bc_top.proofs.Settled.{contours_settled, meshes_settled}
use Rattle.bc_top.proofs.Answering.{IsSettled, boundary_stop, boundary_put}

carved_text : {B P X : Type 0} (k : Geometry B P X) (b : B) (box : X) (t : Shape) → IsCarvedTree k b box t → DescribesCarved k b (layout (k.head box) [] t)
carved_text k b box t is =
    let s : Spells (layout (k.head box) [] t) t = layout_spells (k.head box) [] t is.allowed in
    let h = head_lines_first (k.head box) [] t in
    record {
      box = box;
      tree = t;
      of_boundary = is;
      layout = refl;
      spells = s;
      only = λ u v. spells_one_tree (layout (k.head box) [] t) u t v s;
      more = h.0;
      head = h.1;
    }

module _ {B P X : Type 0} (k : Geometry B P X) (g : Grammar B) (settled : IsSettled k g) where
  pub carves_stop : (s : Status) (r : Reading) (w : Writing) → Stops g.most (IsConvertRefusal k g) r s → Keeps w.held w.grown → Fulfils (carves k g) s r w
  carves_stop s r w h e = boundary_stop k g settled (IsCarved k g) s r w h e

  pub carves_put : (s : Status) (r : Reading) (w : Writing) (bytes : List ℕ) (d : Division) (f : Formula) → IsRead r bytes → IsDivisionOf k g bytes d → IsCarvedFrom d f
      → IsPut (layout f.head f.notes.items (shape f.tree)) s w → Fulfils (carves k g) s r w
  carves_put s r w bytes d f h is made p =
      let (head, tree) = carved_tree k is.boundary is.box d f is.division made in
      boundary_put k g settled (IsCarved k g) s r w bytes (layout (k.head is.box) [] (shape f.tree)) h
      (record { boundary = is.boundary; of_bytes = is.of_bytes; described = carved_text k is.boundary is.box (shape f.tree) tree })
      (subst (λ (head : Head). IsPut (layout head [] (shape f.tree)) s w) head (subst (λ notes. IsPut (layout f.head notes (shape f.tree)) s w) made.notes p))

-- ---- of each kind

pub masks_of_kind : (kind : Kind) (bytes : List ℕ) (d : Division) → IsDivisionOfKind kind bytes d → AreMasks d.leaves (masks_of d.inside.items) (masks_of d.outside.items)
masks_of_kind Contour bytes d is = is.division.masks
masks_of_kind Off bytes d is = is.division.masks

pub allowed_of_kind : (kind : Kind) (bytes : List ℕ) (d : Division) (f : Formula) → IsDivisionOfKind kind bytes d → IsCarvedFrom d f → IsAllowed (shape f.tree)
allowed_of_kind Contour bytes d f is made = (carved_tree contours is.boundary is.box d f is.division made).1.allowed
allowed_of_kind Off bytes d f is made = (carved_tree meshes is.boundary is.box d f is.division made).1.allowed

pub stop_of_kind : (kind : Kind) (s : Status) (r : Reading) (w : Writing) → StopsKind kind r s → Keeps w.held w.grown → Fulfils (carve_promise kind) s r w
stop_of_kind Contour s r w h e = carves_stop contours contour_texts contours_settled s r w h e
stop_of_kind Off s r w h e = carves_stop meshes mesh_texts meshes_settled s r w h e

pub put_of_kind : (kind : Kind) (s : Status) (r : Reading) (w : Writing) (bytes : List ℕ) (d : Division) (f : Formula) → IsRead r bytes → IsDivisionOfKind kind bytes d → IsCarvedFrom d f
    → IsPut (layout f.head f.notes.items (shape f.tree)) s w → Fulfils (carve_promise kind) s r w
put_of_kind Contour s r w bytes d f h is made p = carves_put contours contour_texts contours_settled s r w bytes d f h is made p
put_of_kind Off s r w bytes d f h is made p = carves_put meshes mesh_texts meshes_settled s r w bytes d f h is made p
