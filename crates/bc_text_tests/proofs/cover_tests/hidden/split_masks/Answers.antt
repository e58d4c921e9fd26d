use Rattle.std.proofs.Common.{ℕ, ◌+◌, ◌%◌, ◌≤◌, arith}
use Rattle.bc_cover.proofs.DistinctFacts.{distinct_from_parts}
use Rattle.bc_text_tests.proofs.SplitFacts.{split_inside, split_outside}
use Rattle.bc_text_tests.proofs.cover_tests.hidden.split_masks.Goals as goal
use Rattle.bc_text_tests.proofs.cover_tests.hidden.split_masks.Goals.{then-mask-end, then-any+in_ok-push, else-any+in_ok-push-2, else-mask-end}

pub loop-preserved : goal.loop-preserved
loop-preserved c =
    let mask : ℕ = c.loop.next + c.scrambled-word.result % c.from.result in
    let later : c.loop.next ≤ mask = omega arith in
    elim c.if-mask-end.branch [
      | then-mask-end w ↦ elim w.if-any.branch [
        | then-any+in_ok-push v ↦ rw (w.next-is, w.inside-is, w.outside-is, v.inside-is, v.outside-is) record {
          low = omega (arith, w.if-mask-end.true);
          split = split_inside c.loop.next mask c.loop.inside.items c.loop.outside.items v.push.new.self.items later v.in_ok-push.ensures.items c.loop.invariant.split;
        }
        | else-any+in_ok-push-2 v ↦ rw (w.next-is, w.inside-is, w.outside-is, v.inside-is, v.outside-is) record {
          low = omega (arith, w.if-mask-end.true);
          split = split_outside c.loop.next mask c.loop.inside.items c.loop.outside.items v.push-else-any.new.self.items later v.in_ok-push-2.ensures.items c.loop.invariant.split;
        }
      ]
      | else-mask-end w ↦ rw (w.next-is, w.inside-is, w.outside-is) c.loop.invariant
    ]

pub returns-clause-distinct : goal.returns-clause-distinct
returns-clause-distinct c =
    let split = c.loop.invariant.split in
    distinct_from_parts c.loop.inside.items c.loop.outside.items split.inside_differ split.outside_differ split.apart
