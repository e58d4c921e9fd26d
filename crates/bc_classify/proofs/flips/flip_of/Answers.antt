use Rattle.std.proofs.Common.{◌≡◌, Bool, true, ◌&&◌, length, sym, ap, ◌∙◌}
use Rattle.std.proofs.lemmas.Bool.{and_right}
use Rattle.bc_num.specs.Measures.{square_between}
use Rattle.bc_parity.proofs.Xors.{and_true}
use Rattle.bc_classify.specs.OddMasks.{flips, has_disc}
use Rattle.bc_classify.proofs.Overlaps.{overlap_none}
use Rattle.bc_classify.proofs.flips.flip_of.Goals as goal

and_yes : (x y : Bool) → y ≡ true → x ≡ (x && y)
and_yes x y h = sym (ap (λ b. x && b) h ∙ and_true x)

pub returns-in-Edge : goal.returns-in-Edge
returns-in-Edge c mask = overlap_none mask ∙ sym (ap (flips c.args.table.now c.args.q.now mask) c.in-Edge.is)

pub returns-then-arc_flips : goal.returns-then-arc_flips
returns-then-arc_flips c mask =
    c.bit_of_disc.ensures mask
    ∙ and_yes (has_disc mask (length c.args.table.now.lines) c.args.table.now.discs c.in-Arc.c (square_between c.in-Arc.c c.in-Arc.a)) _ (sym c.arc_flips.ensures ∙ c.if-arc_flips.true)
    ∙ sym (ap (flips c.args.table.now c.args.q.now mask) c.in-Arc.is)

pub returns-else-arc_flips : goal.returns-else-arc_flips
returns-else-arc_flips c mask =
    overlap_none mask
    ∙ sym (and_right (has_disc mask (length c.args.table.now.lines) c.args.table.now.discs c.in-Arc.c (square_between c.in-Arc.c c.in-Arc.a)) _ (sym c.arc_flips.ensures ∙ c.if-arc_flips.false))
    ∙ sym (ap (flips c.args.table.now c.args.q.now mask) c.in-Arc.is)
