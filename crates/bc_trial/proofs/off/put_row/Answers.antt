use Rattle.std.proofs.Common.{◌++◌, ℕ, List, get_or, ap, ◌∙◌}
use Rattle.std.specs.Fmt.{decimal}
use Rattle.bc_trial.proofs.Rows.{first_number, next_number}
use Rattle.bc_trial.proofs.off.put_row.Goals as goal
use Rattle.bc_trial.proofs.off.put_row.Goals.{then-i-gt0+in_ok-put, else-i-gt0}

pub loop-i-preserved : goal.loop-i-preserved
loop-i-preserved c =
    elim c.if-i-gt0.branch [
      | then-i-gt0+in_ok-put w ↦
          next_number c.args.numbers.now c.loop-i.i c.args.text.now.items c.loop-i.text.items c.if-i-gt0.text.items c.put_number.new.text.items w.if-i-gt0.true c.loop-i-test.true c.loop-i.invariant
          (ap (λ v. v.items) w.text-is ∙ w.in_ok-put.ensures) c.in_ok-put_number.ensures
      | else-i-gt0 w ↦
          first_number c.args.numbers.now c.loop-i.i c.args.text.now.items c.loop-i.text.items c.put_number.new.text.items w.if-i-gt0.false c.loop-i-test.true c.loop-i.invariant
          (c.in_ok-put_number.ensures ∙ ap (λ (t : List ℕ). t ++ decimal (get_or c.args.numbers.now c.loop-i.i 0)) (ap (λ v. v.items) w.text-is))
    ]
