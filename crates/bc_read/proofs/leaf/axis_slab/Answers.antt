use Rattle.std.proofs.Common.{rules, ◌↔◌, ◌∙◌, sym, ap, subst, get_or, refl, IsSome}
use Rattle.std.proofs.lemmas.Int.{to_z-of_z}
use Rattle.std.specs.Int.RustNames.{FitsSigned}
use Rattle.std.specs.Ordering.{int_eq}
use Rattle.std.specs.Prelude.{pos}
use mir.Syntax.{w64}
use lib.Pointwise.{pointwise}
use Rattle.bc_tree.specs.declared.frame.Frame3.{Frame3}
use Rattle.bc_tree.specs.Leaves.{IsFrame3}
use Rattle.bc_read.proofs.ShortTests.{frame3-as, slab-frameless, slab-found, slab-crooked, slab-other}
use Rattle.bc_read.proofs.leaf.axis_slab.Goals as goal

pub returns-in_err-frame : goal.returns-in_err-frame
returns-in_err-frame c =
    let fits0 : FitsSigned w64 (get_or c.args.numbers.now 0 (pos 0)) = search rules in
    let fits1 : FitsSigned w64 (get_or c.args.numbers.now 1 (pos 0)) = search rules in
    let fits2 : FitsSigned w64 (get_or c.args.numbers.now 2 (pos 0)) = search rules in
    let fits3 : FitsSigned w64 (get_or c.args.numbers.now 3 (pos 0)) = search rules in
    let fits4 : FitsSigned w64 (get_or c.args.numbers.now 4 (pos 0)) = search rules in
    let fits5 : FitsSigned w64 (get_or c.args.numbers.now 5 (pos 0)) = search rules in
    let fits6 : FitsSigned w64 c.component_of.result = search rules in
    let fits7 : FitsSigned w64 c.component_of-2.result = search rules in
    let fits8 : FitsSigned w64 c.component_of-3.result = search rules in
    let fits9 : FitsSigned w64 c.origin_of.result = search rules in
    let fits10 : FitsSigned w64 c.origin_of-2.result = search rules in
    let fits11 : FitsSigned w64 c.origin_of-3.result = search rules in
    let n0 = simp to_z-of_z at c.component_of.ensures.value in
    let n1 = simp to_z-of_z at c.component_of-2.ensures.value in
    let n2 = simp to_z-of_z at c.component_of-3.ensures.value in
    let o0 = simp to_z-of_z at c.origin_of.ensures in
    let o1 = simp to_z-of_z at c.origin_of-2.ensures in
    let o2 = simp to_z-of_z at c.origin_of-3.ensures in
    let same = frame3-as c.args.numbers.now c.origin_of.result c.origin_of-2.result c.origin_of-3.result c.component_of.result c.component_of-2.result c.component_of-3.result n0 n1 n2 o0 o1 o2 in
    let h = simp to_z-of_z at c.new.ensures.some in
    slab-frameless _ c.new.result c.args.numbers.now c.from_residual.ensures c.in_err-frame.was (subst (λ (f : Frame3). IsSome c.new.result ↔ IsFrame3 f) same h)

pub returns-then-not-is_axis : goal.returns-then-not-is_axis
returns-then-not-is_axis c =
    let fits0 : FitsSigned w64 (get_or c.args.numbers.now 0 (pos 0)) = search rules in
    let fits1 : FitsSigned w64 (get_or c.args.numbers.now 1 (pos 0)) = search rules in
    let fits2 : FitsSigned w64 (get_or c.args.numbers.now 2 (pos 0)) = search rules in
    let fits3 : FitsSigned w64 (get_or c.args.numbers.now 3 (pos 0)) = search rules in
    let fits4 : FitsSigned w64 (get_or c.args.numbers.now 4 (pos 0)) = search rules in
    let fits5 : FitsSigned w64 (get_or c.args.numbers.now 5 (pos 0)) = search rules in
    let fits6 : FitsSigned w64 c.component_of.result = search rules in
    let fits7 : FitsSigned w64 c.component_of-2.result = search rules in
    let fits8 : FitsSigned w64 c.component_of-3.result = search rules in
    let fits9 : FitsSigned w64 c.origin_of.result = search rules in
    let fits10 : FitsSigned w64 c.origin_of-2.result = search rules in
    let fits11 : FitsSigned w64 c.origin_of-3.result = search rules in
    let n0 = simp to_z-of_z at c.component_of.ensures.value in
    let n1 = simp to_z-of_z at c.component_of-2.ensures.value in
    let n2 = simp to_z-of_z at c.component_of-3.ensures.value in
    let o0 = simp to_z-of_z at c.origin_of.ensures in
    let o1 = simp to_z-of_z at c.origin_of-2.ensures in
    let o2 = simp to_z-of_z at c.origin_of-3.ensures in
    let same = frame3-as c.args.numbers.now c.origin_of.result c.origin_of-2.result c.origin_of-3.result c.component_of.result c.component_of-2.result c.component_of-3.result n0 n1 n2 o0 o1 o2 in
    let v = c.in_ok-frame.ensures.value in
    let h = simp to_z-of_z at v in
    slab-crooked c.args.numbers.now c.in_ok-frame.frame (h ∙ same) (sym c.is_axis.ensures.test ∙ c.if-not-is_axis.true)

pub box3_numbers-requires : goal.box3_numbers-requires
box3_numbers-requires c = record {
  frame = subst IsFrame3 (sym c.in_ok-frame.ensures.value) (c.in_ok-frame.ensures.some.0 refl);
  axis = c.is_axis.ensures.axis.0 c.if-not-is_axis.false;
}

pub returns-then-eq : goal.returns-then-eq
returns-then-eq c =
    slab-found c.args.numbers.now c.in_ok-frame.frame (subst IsFrame3 (sym c.in_ok-frame.ensures.value) (c.in_ok-frame.ensures.some.0 refl))
    (sym c.is_axis.ensures.test ∙ c.if-not-is_axis.false)
    (ap (pointwise int_eq c.args.numbers.now) (sym (c.as_slice.ensures ∙ c.box3_numbers.ensures)) ∙ sym c.eq.ensures ∙ c.if-eq.true)

pub returns-else-eq : goal.returns-else-eq
returns-else-eq c =
    let fits0 : FitsSigned w64 (get_or c.args.numbers.now 0 (pos 0)) = search rules in
    let fits1 : FitsSigned w64 (get_or c.args.numbers.now 1 (pos 0)) = search rules in
    let fits2 : FitsSigned w64 (get_or c.args.numbers.now 2 (pos 0)) = search rules in
    let fits3 : FitsSigned w64 (get_or c.args.numbers.now 3 (pos 0)) = search rules in
    let fits4 : FitsSigned w64 (get_or c.args.numbers.now 4 (pos 0)) = search rules in
    let fits5 : FitsSigned w64 (get_or c.args.numbers.now 5 (pos 0)) = search rules in
    let fits6 : FitsSigned w64 c.component_of.result = search rules in
    let fits7 : FitsSigned w64 c.component_of-2.result = search rules in
    let fits8 : FitsSigned w64 c.component_of-3.result = search rules in
    let fits9 : FitsSigned w64 c.origin_of.result = search rules in
    let fits10 : FitsSigned w64 c.origin_of-2.result = search rules in
    let fits11 : FitsSigned w64 c.origin_of-3.result = search rules in
    let n0 = simp to_z-of_z at c.component_of.ensures.value in
    let n1 = simp to_z-of_z at c.component_of-2.ensures.value in
    let n2 = simp to_z-of_z at c.component_of-3.ensures.value in
    let o0 = simp to_z-of_z at c.origin_of.ensures in
    let o1 = simp to_z-of_z at c.origin_of-2.ensures in
    let o2 = simp to_z-of_z at c.origin_of-3.ensures in
    let same = frame3-as c.args.numbers.now c.origin_of.result c.origin_of-2.result c.origin_of-3.result c.component_of.result c.component_of-2.result c.component_of-3.result n0 n1 n2 o0 o1 o2 in
    let v = c.in_ok-frame.ensures.value in
    let h = simp to_z-of_z at v in
    slab-other c.args.numbers.now c.in_ok-frame.frame (h ∙ same)
    (ap (pointwise int_eq c.args.numbers.now) (sym (c.as_slice.ensures ∙ c.box3_numbers.ensures)) ∙ sym c.eq.ensures ∙ c.if-eq.false)
