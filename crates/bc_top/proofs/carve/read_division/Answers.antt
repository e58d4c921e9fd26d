use Rattle.std.proofs.Common.{◌≡◌, List, ℕ, Result, Ok, Err, sym, subst}
use Rattle.std.specs.Prelude.{IfOk, IfErr}
use Rattle.bc_num.specs.declared.box2.Box2.{Box2}
use Rattle.bc_num.specs.declared.box3.Box3.{Box3}
use Rattle.bc_solid.specs.declared.element.Element.{Element}
use Rattle.bc_solid.specs.Facets.{Facet}
use Rattle.bc_formula.specs.ContourGeometry.{contours}
use Rattle.bc_formula.specs.MeshGeometry.{meshes}
use Rattle.bc_formula.specs.Divisions.{IsDivision}
use Rattle.bc_formula.specs.declared.terms.Division.{Division}
use Rattle.bc_status.specs.declared.status.Status.{Status}
use Rattle.bc_top.specs.declared.command.Kind.{Kind}
use Rattle.bc_top.specs.declared.command.Kind.TheVariants.{Contour, Off}
use Rattle.bc_top.specs.Carves.{IsDivisionOfKind, StopsKind}
use Rattle.bc_top.specs.ContourTexts.{HasProfile}
use Rattle.bc_top.specs.MeshTexts.{HasSolid}
use Rattle.bc_top.specs.Streams.{Reading, IsRead, reading}
use Rattle.bc_top.proofs.carve.read_division.Goals as goal

-- a division of what was read, as one of its kind
of_contours : (r : Reading) (result : Result Division Status) → IfOk result (λ d. (bytes : List ℕ) × IsRead r bytes × (es : List Element) × HasProfile bytes es × (box : Box2) × IsDivision contours contours.lean_mask es box d)
    → IfOk result (λ d. (bytes : List ℕ) × IsRead r bytes × IsDivisionOfKind Contour bytes d)
of_contours r (Ok d) (bytes, read, es, of_bytes, box, is) = (bytes, read, record { boundary = es; of_bytes = of_bytes; box = box; division = is })
of_contours r (Err e) h = tt

of_mesh : (r : Reading) (result : Result Division Status) → IfOk result (λ d. (bytes : List ℕ) × IsRead r bytes × (fs : List Facet) × HasSolid bytes fs × (box : Box3) × IsDivision meshes meshes.lean_mask fs box d)
    → IfOk result (λ d. (bytes : List ℕ) × IsRead r bytes × IsDivisionOfKind Off bytes d)
of_mesh r (Ok d) (bytes, read, fs, of_bytes, box, is) = (bytes, read, record { boundary = fs; of_bytes = of_bytes; box = box; division = is })
of_mesh r (Err e) h = tt

pub returns-in-Contour-clause-ok : goal.returns-in-Contour-clause-ok
returns-in-Contour-clause-ok g c =
    let r = reading g.S.Source.left g.S.Source.faults c.args.source.now c.read_contour_division.new.source in
    subst (λ (k : Kind). IfOk c.read_contour_division.result (λ (d : Division). (bytes : List ℕ) × IsRead r bytes × IsDivisionOfKind k bytes d)) (sym c.in-Contour.is) (of_contours r c.read_contour_division.result c.read_contour_division.ensures.ok)

pub returns-in-Contour-clause-err : goal.returns-in-Contour-clause-err
returns-in-Contour-clause-err g c =
    let r = reading g.S.Source.left g.S.Source.faults c.args.source.now c.read_contour_division.new.source in
    subst (λ (k : Kind). IfErr c.read_contour_division.result (StopsKind k r)) (sym c.in-Contour.is) c.read_contour_division.ensures.err

pub returns-in-Off-clause-ok : goal.returns-in-Off-clause-ok
returns-in-Off-clause-ok g c =
    let r = reading g.S.Source.left g.S.Source.faults c.args.source.now c.read_mesh_division.new.source in
    subst (λ (k : Kind). IfOk c.read_mesh_division.result (λ (d : Division). (bytes : List ℕ) × IsRead r bytes × IsDivisionOfKind k bytes d)) (sym c.in-Off.is) (of_mesh r c.read_mesh_division.result c.read_mesh_division.ensures.ok)

pub returns-in-Off-clause-err : goal.returns-in-Off-clause-err
returns-in-Off-clause-err g c =
    let r = reading g.S.Source.left g.S.Source.faults c.args.source.now c.read_mesh_division.new.source in
    subst (λ (k : Kind). IfErr c.read_mesh_division.result (StopsKind k r)) (sym c.in-Off.is) c.read_mesh_division.ensures.err
