-- What `carve` promises, of any kind of boundary. It takes and refuses what `convert` does, and its text has the head of
-- `convert`. Its tree is that of pieces of the boundary: products, less what they let in, again less what that lets in.
use Rattle.std.specs.Prelude.{◌≡◌, ℕ, List, [], ◌++◌}
use Rattle.bc_num.specs.Lines.{lines}
use Rattle.bc_tree.specs.Shape.{Shape}
use Rattle.bc_tree.specs.Spells.{Spells}
use Rattle.bc_text.specs.Layout.{layout, head_lines}
use Rattle.bc_formula.specs.Geometry.{Geometry}
use Rattle.bc_formula.specs.Divisions.{IsDivision}
use Rattle.bc_formula.specs.ContourGeometry.{contours}
use Rattle.bc_formula.specs.MeshGeometry.{meshes}
use Rattle.bc_formula.specs.declared.terms.Division.{Division}
use Rattle.bc_pieces.specs.Carvings.{IsCarvedTree}
use Rattle.bc_status.specs.declared.status.Status.{Status}
use Rattle.bc_top.specs.declared.boundary.TheConstants.{MOST_BYTES}
use Rattle.bc_top.specs.declared.command.Kind.{Kind}
use Rattle.bc_top.specs.declared.command.Kind.TheVariants.{Contour, Off}
use Rattle.bc_top.specs.Texts.{Grammar}
use Rattle.bc_top.specs.ContourTexts.{contour_texts}
use Rattle.bc_top.specs.MeshTexts.{mesh_texts}
use Rattle.bc_top.specs.Converts.{IsConvertRefusal, reads_boundary}
use Rattle.bc_top.specs.Stages.{Stops}
use Rattle.bc_top.specs.Streams.{Reading}
use Rattle.bc_top.specs.Promises.{Promise}

-- the text is that of a carved tree of the boundary
pub record DescribesCarved {B P X : Type 0} (k : Geometry B P X) (b : B) (text : List ℕ) : Type 0 where
  pub box : X
  pub tree : Shape
  pub of_boundary : IsCarvedTree k b box tree
  -- it is the layout of this tree under the head that `convert` writes, without notes
  pub layout : text ≡ layout (k.head box) [] tree
  -- it spells this tree, and no other
  pub spells : Spells text tree
  pub only : (t : Shape) → Spells text t → t ≡ tree
  -- its first lines are those of its head: the first names its kind, the second the box
  pub more : List (List ℕ)
  pub head : lines text ≡ head_lines (k.head box) ++ more

-- these bytes are carved to this text
pub record IsCarved {B P X : Type 0} (k : Geometry B P X) (g : Grammar B) (bytes text : List ℕ) : Type 0 where
  pub boundary : B
  pub of_bytes : g.of_text bytes boundary
  pub described : DescribesCarved k boundary text

abbrev pub carves : {B P X : Type 0} → Geometry B P X → Grammar B → Promise
carves k g = reads_boundary k g (IsCarved k g)

-- the division is that of the boundary of these bytes, with its lean masks
pub record IsDivisionOf {B P X : Type 0} (k : Geometry B P X) (g : Grammar B) (bytes : List ℕ) (d : Division) : Type 0 where
  pub boundary : B
  pub of_bytes : g.of_text bytes boundary
  pub box : X
  pub division : IsDivision k k.lean_mask boundary box d

-- the same of each kind of boundary, and why there is none
abbrev pub IsDivisionOfKind : Kind → List ℕ → Division → Type 0
IsDivisionOfKind Contour bytes d = IsDivisionOf contours contour_texts bytes d
IsDivisionOfKind Off bytes d = IsDivisionOf meshes mesh_texts bytes d

abbrev pub StopsKind : Kind → Reading → Status → Type 0
StopsKind Contour r s = Stops MOST_BYTES (IsConvertRefusal contours contour_texts) r s
StopsKind Off r s = Stops MOST_BYTES (IsConvertRefusal meshes mesh_texts) r s
