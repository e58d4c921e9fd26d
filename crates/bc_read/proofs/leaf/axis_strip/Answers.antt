use Rattle.std.proofs.Common.{rules, ◌↔◌, ◌∙◌, sym, ap, subst, get_or, refl, IsSome}
use Rattle.std.proofs.lemmas.Int.{to_z-of_z}
use Rattle.std.specs.Int.RustNames.{FitsSigned}
use Rattle.std.specs.Ordering.{int_eq}
use Rattle.std.specs.Prelude.{pos}
use mir.Syntax.{w64}
use lib.Pointwise.{pointwise}
use Rattle.bc_tree.specs.declared.frame.Frame2.{Frame2}
use Rattle.bc_tree.specs.Leaves.{IsFrame2}
use Rattle.bc_read.proofs.ShortTests.{frame2-as, strip-frameless, strip-found, strip-crooked, strip-other}
use Rattle.bc_read.proofs.leaf.axis_strip.Goals as goal

pub returns-in_err-frame : goal.returns-in_err-frame
returns-in_err-frame c =
    let fits0 : FitsSigned w64 (get_or c.args.numbers.now 0 (pos 0)) = search rules in
    let fits1 : FitsSigned w64 (get_or c.args.numbers.now 1 (pos 0)) = search rules in
    let fits2 : FitsSigned w64 (get_or c.args.numbers.now 3 (pos 0)) = search rules in
    let fits3 : FitsSigned w64 (get_or c.args.numbers.now 4 (pos 0)) = search rules in
    let fits4 : FitsSigned w64 c.component_of.result = search rules in
    let fits5 : FitsSigned w64 c.component_of-2.result = search rules in
    let fits6 : FitsSigned w64 c.origin_of.result = search rules in
    let fits7 : FitsSigned w64 c.origin_of-2.result = search rules in
    let fits8 : FitsSigned w64 c.direction_of.result.x = search rules in
    let fitsu : FitsSigned w64 c.direction_of.result.y = search rules in
    let u = simp to_z-of_z at c.direction_of.ensures in
    let n0 = simp to_z-of_z at c.component_of.ensures.value in
    let n1 = simp to_z-of_z at c.component_of-2.ensures.value in
    let o0 = simp to_z-of_z at c.origin_of.ensures in
    let o1 = simp to_z-of_z at c.origin_of-2.ensures in
    let same = frame2-as c.args.numbers.now c.origin_of.result c.origin_of-2.result c.component_of.result c.component_of-2.result c.direction_of.result n0 n1 o0 o1 u in
    let h = simp to_z-of_z at c.new.ensures.some in
    strip-frameless _ c.new.result c.args.numbers.now c.from_residual.ensures c.in_err-frame.was (subst (λ (f : Frame2). IsSome c.new.result ↔ IsFrame2 f) same h)

pub returns-then-not-is_axis : goal.returns-then-not-is_axis
returns-then-not-is_axis c =
    let fits0 : FitsSigned w64 (get_or c.args.numbers.now 0 (pos 0)) = search rules in
    let fits1 : FitsSigned w64 (get_or c.args.numbers.now 1 (pos 0)) = search rules in
    let fits2 : FitsSigned w64 (get_or c.args.numbers.now 3 (pos 0)) = search rules in
    let fits3 : FitsSigned w64 (get_or c.args.numbers.now 4 (pos 0)) = search rules in
    let fits4 : FitsSigned w64 c.component_of.result = search rules in
    let fits5 : FitsSigned w64 c.component_of-2.result = search rules in
    let fits6 : FitsSigned w64 c.origin_of.result = search rules in
    let fits7 : FitsSigned w64 c.origin_of-2.result = search rules in
    let fits8 : FitsSigned w64 c.direction_of.result.x = search rules in
    let fitsu : FitsSigned w64 c.direction_of.result.y = search rules in
    let u = simp to_z-of_z at c.direction_of.ensures in
    let n0 = simp to_z-of_z at c.component_of.ensures.value in
    let n1 = simp to_z-of_z at c.component_of-2.ensures.value in
    let o0 = simp to_z-of_z at c.origin_of.ensures in
    let o1 = simp to_z-of_z at c.origin_of-2.ensures in
    let same = frame2-as c.args.numbers.now c.origin_of.result c.origin_of-2.result c.component_of.result c.component_of-2.result c.direction_of.result n0 n1 o0 o1 u in
    let v = c.in_ok-frame.ensures.value in
    let h = simp to_z-of_z at v in
    strip-crooked c.args.numbers.now c.in_ok-frame.frame (h ∙ same) (sym c.is_axis.ensures.test ∙ c.if-not-is_axis.true)

pub box2_numbers-requires : goal.box2_numbers-requires
box2_numbers-requires c = record {
  frame = subst IsFrame2 (sym c.in_ok-frame.ensures.value) (c.in_ok-frame.ensures.some.0 refl);
  axis = c.is_axis.ensures.axis.0 c.if-not-is_axis.false;
}

pub returns-then-eq : goal.returns-then-eq
returns-then-eq c =
    strip-found c.args.numbers.now c.in_ok-frame.frame (subst IsFrame2 (sym c.in_ok-frame.ensures.value) (c.in_ok-frame.ensures.some.0 refl))
    (sym c.is_axis.ensures.test ∙ c.if-not-is_axis.false)
    (ap (pointwise int_eq c.args.numbers.now) (sym (c.as_slice.ensures ∙ c.box2_numbers.ensures)) ∙ sym c.eq.ensures ∙ c.if-eq.true)

pub returns-else-eq : goal.returns-else-eq
returns-else-eq c =
    let fits0 : FitsSigned w64 (get_or c.args.numbers.now 0 (pos 0)) = search rules in
    let fits1 : FitsSigned w64 (get_or c.args.numbers.now 1 (pos 0)) = search rules in
    let fits2 : FitsSigned w64 (get_or c.args.numbers.now 3 (pos 0)) = search rules in
    let fits3 : FitsSigned w64 (get_or c.args.numbers.now 4 (pos 0)) = search rules in
    let fits4 : FitsSigned w64 c.component_of.result = search rules in
    let fits5 : FitsSigned w64 c.component_of-2.result = search rules in
    let fits6 : FitsSigned w64 c.origin_of.result = search rules in
    let fits7 : FitsSigned w64 c.origin_of-2.result = search rules in
    let fits8 : FitsSigned w64 c.direction_of.result.x = search rules in
    let fitsu : FitsSigned w64 c.direction_of.result.y = search rules in
    let u = simp to_z-of_z at c.direction_of.ensures in
    let n0 = simp to_z-of_z at c.component_of.ensures.value in
    let n1 = simp to_z-of_z at c.component_of-2.ensures.value in
    let o0 = simp to_z-of_z at c.origin_of.ensures in
    let o1 = simp to_z-of_z at c.origin_of-2.ensures in
    let same = frame2-as c.args.numbers.now c.origin_of.result c.origin_of-2.result c.component_of.result c.component_of-2.result c.direction_of.result n0 n1 o0 o1 u in
    let v = c.in_ok-frame.ensures.value in
    let h = simp to_z-of_z at v in
    strip-other c.args.numbers.now c.in_ok-frame.frame (h ∙ same)
    (ap (pointwise int_eq c.args.numbers.now) (sym (c.as_slice.ensures ∙ c.box2_numbers.ensures)) ∙ sym c.eq.ensures ∙ c.if-eq.false)
