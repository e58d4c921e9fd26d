use Rattle.std.specs.Prelude.{◌≡◌, ◌+◌, ◌*◌, ◌^◌, ◌%◌, length}
use Rattle.std.proofs.Common.{ap, ◌∙◌, sym, arith}
use Rattle.std.proofs.lemmas.Nat.{one_shl}
use Rattle.bc_num.specs.Measures.{square_between}
use Rattle.bc_classify.specs.RegionParities.{is_odd_overlap}
use Rattle.bc_classify.proofs.Discs.{found, missed, nowhere}
use Rattle.bc_classify.proofs.Overlaps.{overlap_bit, overlap_none}
use Rattle.bc_classify.proofs.flips.bit_of_disc.Goals as goal

pub returns-then-is_disc : goal.returns-then-is_disc
returns-then-is_disc c mask =
    let t = c.args.table.now in
    let place : c.lines.result + c.loop-i.i ≡ length t.lines + c.loop-i.i = omega arith in
    let one : 1 * 2 ^ (c.lines.result + c.loop-i.i) % 2 ^ 64 ≡ 2 ^ (length t.lines + c.loop-i.i) =
    one_shl (c.lines.result + c.loop-i.i) 64 (omega arith) ∙ ap (λ n. 2 ^ n) place in
    ap (is_odd_overlap mask) one
    ∙ overlap_bit mask (length t.lines + c.loop-i.i)
    ∙ found (length t.lines) t.discs c.args.c.now (square_between c.args.c.now c.args.a.now) c.loop-i.i c.loop-i.invariant mask c.disc.result c.disc.ensures (sym c.is_disc.ensures ∙ c.if-is_disc.true)

pub loop-i-preserved : goal.loop-i-preserved
loop-i-preserved c mask =
    missed (length c.args.table.now.lines) c.args.table.now.discs c.args.c.now (square_between c.args.c.now c.args.a.now) c.loop-i.i c.loop-i.invariant mask c.disc.result c.disc.ensures (sym c.is_disc.ensures ∙ c.if-is_disc.false)

pub returns : goal.returns
returns c mask =
    overlap_none mask
    ∙ nowhere (length c.args.table.now.lines) c.args.table.now.discs c.args.c.now (square_between c.args.c.now c.args.a.now) c.loop-i.i c.loop-i.invariant mask (omega arith)
