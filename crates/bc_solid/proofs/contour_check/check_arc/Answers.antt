use Rattle.std.proofs.Common.{rules, sym, ◌∙◌, w64, FitsSigned}
use Rattle.bc_solid.proofs.Faults.{zero, even_back, skew_back}
use Rattle.bc_solid.proofs.contour_check.check_arc.Goals as goal

pub returns-then-is_same_place : goal.returns-then-is_same_place
returns-then-is_same_place c = record { ok = tt; err = zero c.args.at c.args.a c.args.b c.args.c (sym c.is_same_place.ensures ∙ c.if-is_same_place.true) }

pub returns-then-is_equal : goal.returns-then-is_equal
returns-then-is_equal c =
    let fs : FitsSigned w64 c.square_of-start2.result = search rules in
    let fe : FitsSigned w64 c.square_of-end2.result = search rules in
    record {
      ok = even_back c.args.at c.args.a c.args.b c.args.c c.square_of-start2.result c.square_of-end2.result fs fe c.square_of-start2.ensures.square c.square_of-end2.ensures.square
          (sym c.is_same_place.ensures ∙ c.if-is_same_place.false) (sym c.is_equal.ensures ∙ c.if-is_equal.true);
      err = tt;
    }

pub returns-else-is_equal : goal.returns-else-is_equal
returns-else-is_equal c =
    let fs : FitsSigned w64 c.square_of-start2.result = search rules in
    let fe : FitsSigned w64 c.square_of-end2.result = search rules in
    record {
      ok = tt;
      err = skew_back c.args.at c.args.a c.args.b c.args.c c.square_of-start2.result c.square_of-end2.result fs fe c.square_of-start2.ensures.square c.square_of-end2.ensures.square
          (sym c.is_same_place.ensures ∙ c.if-is_same_place.false) (sym c.is_equal.ensures ∙ c.if-is_equal.false);
    }
