use Rattle.std.proofs.Common.{◌≡◌, true, false, List, map, refl, sym, ap, ◌∙◌, subst}
use Rattle.bc_num.specs.Sizes.{IsLargePoint3}
use Rattle.bc_space.specs.Planes.{plane_side}
use Rattle.bc_space.specs.Solid.{walls3, met3}
use Rattle.bc_cells.specs.Cells.{AreCells, Cell3}
use Rattle.bc_tree.specs.Shape.{shape}
use Rattle.bc_audit.specs.SlabPlanes.{ArePlanesWith}
use Rattle.bc_audit.specs.Told.{leaf_told, holds_by}
use Rattle.bc_audit.proofs.Verdicts.{of_box, verdict_of}
use Rattle.bc_audit.proofs.verdict.audit.Goals as goal

pub returns-then-not-has_one_box-clause-err : goal.returns-then-not-has_one_box-clause-err
returns-then-not-has_one_box-clause-err c = record {
  box = c.box3-block.result;
  box_of = c.box3-block.ensures.box_of;
  other = λ h. let e : true ≡ false = sym ((of_box c.box3-block.result (shape c.args.t.now)).1 h) ∙ sym c.has_one_box.ensures ∙ c.if-not-has_one_box.true in cc;
}

pub returns-then-planes-gt-MOST_PLANES-clause-err : goal.returns-then-planes-gt-MOST_PLANES-clause-err
returns-then-planes-gt-MOST_PLANES-clause-err c = record {
  box = c.box3-block.result;
  box_of = c.box3-block.ensures.box_of;
  boxes = (of_box c.box3-block.result (shape c.args.t.now)).0 (sym c.has_one_box.ensures ∙ c.if-not-has_one_box.false);
  planes = c.as_slice-planes.result.now;
  are_planes = subst (ArePlanesWith c.args.s.now (shape c.args.t.now)) (sym c.as_slice-planes.ensures.planes) c.in_ok-set.ensures.planes;
  count = refl;
  many = c.if-planes-gt-MOST_PLANES.true;
}

pub returns-clause-ok : goal.returns-clause-ok
returns-clause-ok c =
    let s = shape c.args.t.now in
    let planes = c.as_slice-planes.result.now in
    let boxes = (of_box c.box3-block.result s).0 (sym c.has_one_box.ensures ∙ c.if-not-has_one_box.false) in
    let are = subst (ArePlanesWith c.args.s.now s) (sym c.as_slice-planes.ensures.planes) c.in_ok-set.ensures.planes in
    let masks = c.deref.ensures.value ∙ c.in_ok-masks.ensures ∙ ap (map (λ (d : Cell3). d.mask)) (c.as_slice.ensures ∙ sym c.as_slice-2.ensures) in
    let holds = c.deref-2.ensures.value ∙ c.in_ok-holds.ensures ∙ ap (map (λ m. holds_by (leaf_told planes m) s)) masks in
    record {
      box = c.box3-block.result;
      box_of = c.box3-block.ensures.box_of;
      boxes = boxes;
      planes = planes;
      are_planes = are;
      few = c.if-planes-gt-MOST_PLANES.false;
      verdict = verdict_of c.args.s.now s c.box3-block.result planes c.cell_law3.ensures c.box3-block.ensures.near c.requires boxes are
          c.as_slice-2.result.now
          (subst (λ (cs : List Cell3). AreCells IsLargePoint3 plane_side met3 3 (walls3 c.box3-block.result) planes cs) (sym c.as_slice-2.ensures) c.in_ok-all.ensures.cells)
          c.deref-2.result.now holds c.compare.result c.compare.ensures;
    }
