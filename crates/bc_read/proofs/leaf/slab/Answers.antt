use Rattle.std.proofs.Common.{rules, ◌∙◌, sym, ap, subst, get_or, refl}
use Rattle.std.proofs.lemmas.Int.{to_z-of_z}
use Rattle.std.specs.Int.RustNames.{FitsSigned}
use Rattle.std.specs.Ordering.{int_eq}
use Rattle.std.specs.Prelude.{pos}
use mir.Syntax.{w64}
use lib.Pointwise.{pointwise}
use Rattle.bc_tree.specs.Leaves.{IsFrame3}
use Rattle.bc_read.proofs.LeafTests.{slab-no-frame, slab-yes, slab-no}
use Rattle.bc_read.proofs.leaf.slab.Goals as goal

pub returns-in_err-frame : goal.returns-in_err-frame
returns-in_err-frame c =
    let a : FitsSigned w64 (get_or c.args.numbers.now 3 (pos 0)) = search rules in
    let b : FitsSigned w64 (get_or c.args.numbers.now 7 (pos 0)) = search rules in
    let d : FitsSigned w64 (get_or c.args.numbers.now 11 (pos 0)) = search rules in
    let e : FitsSigned w64 (get_or c.args.numbers.now 2 (pos 0)) = search rules in
    let f : FitsSigned w64 (get_or c.args.numbers.now 6 (pos 0)) = search rules in
    let g : FitsSigned w64 (get_or c.args.numbers.now 10 (pos 0)) = search rules in
    let h = simp to_z-of_z at c.new.ensures.some in
    slab-no-frame _ _ _ c.from_residual.ensures c.in_err-frame.was h

pub returns-then-eq : goal.returns-then-eq
returns-then-eq c =
    slab-yes c.args.numbers.now c.in_ok-frame.frame (subst IsFrame3 (sym c.in_ok-frame.ensures.value) (c.in_ok-frame.ensures.some.0 refl))
    (ap (pointwise int_eq c.args.numbers.now) (sym (c.as_slice.ensures ∙ c.slab_numbers.ensures)) ∙ sym c.eq.ensures ∙ c.if-eq.true)

pub returns-else-eq : goal.returns-else-eq
returns-else-eq c =
    let a : FitsSigned w64 (get_or c.args.numbers.now 3 (pos 0)) = search rules in
    let b : FitsSigned w64 (get_or c.args.numbers.now 7 (pos 0)) = search rules in
    let d : FitsSigned w64 (get_or c.args.numbers.now 11 (pos 0)) = search rules in
    let e : FitsSigned w64 (get_or c.args.numbers.now 2 (pos 0)) = search rules in
    let f : FitsSigned w64 (get_or c.args.numbers.now 6 (pos 0)) = search rules in
    let g : FitsSigned w64 (get_or c.args.numbers.now 10 (pos 0)) = search rules in
    let v = c.in_ok-frame.ensures.value in
    let h = simp to_z-of_z at v in
    slab-no c.args.numbers.now c.in_ok-frame.frame h
    (ap (pointwise int_eq c.args.numbers.now) (sym (c.as_slice.ensures ∙ c.slab_numbers.ensures)) ∙ sym c.eq.ensures ∙ c.if-eq.false)
