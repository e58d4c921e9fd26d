use Rattle.std.proofs.Common.{ℕ, ◌+◌, Err, sym, ap, ◌∙◌}
use Rattle.bc_lex.specs.Left.{plain_left}
use Rattle.bc_off.specs.declared.fault.OffFault.TheVariants.{Extra}
use Rattle.bc_off.specs.Entries.{no_more}
use Rattle.bc_off.proofs.WordSteps.{ended, more, extra}
use Rattle.bc_off.proofs.entries.check_end.Goals as goal

pub returns-then-is_ended : goal.returns-then-is_ended
returns-then-is_ended c =
    let p = c.args.words.now in
    sym (ap (no_more p.line (p.nth + 1)) (ended p (sym c.if-is_ended.true ∙ c.is_ended.ensures)))

pub returns : goal.returns
returns c =
    let p = c.args.words.now in
    ap (λ (q : ℕ × ℕ). Err (Extra q.0 q.1)) c.place_of_next-line.ensures
    ∙ sym (extra p.line (p.nth + 1) (plain_left p) (more p (sym c.if-is_ended.false ∙ c.is_ended.ensures)))
