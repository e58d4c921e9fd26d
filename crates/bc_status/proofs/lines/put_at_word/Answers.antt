use Rattle.std.proofs.Common.{◌≡◌, ℕ, zero, suc, ◌<◌, ◌≤◌, List, ◌++◌, codes, arith, refl, subst}
use Rattle.std.specs.Fmt.{decimal}
use Rattle.bc_io.specs.Growing.{GrewBy}
use Rattle.bc_io.proofs.Grown.{behind}
use Rattle.bc_status.specs.Reports.{at_line, at_word}
use Rattle.bc_status.proofs.lines.put_at_word.Goals as goal

with_word : (name : List ℕ) (line word : ℕ) → 0 < word → at_line name line ++ (codes " word " ++ decimal word) ≡ at_word name line word
with_word name line zero h = absurd (omega (arith, h))
with_word name line (suc word) h = refl

no_word : (name : List ℕ) (line word : ℕ) → word ≤ 0 → at_line name line ≡ at_word name line word
no_word name line zero h = refl
no_word name line (suc word) h = absurd (omega (arith, h))

pub returns-then-word-gt0 : goal.returns-then-word-gt0
returns-then-word-gt0 g c =
    subst (λ (text : List ℕ). GrewBy g.K.Sink.held g.K.Sink.faults c.args.pen.now c.put_next.new.self text) (with_word c.args.name.now c.args.line c.args.word c.if-word-gt0.true)
    (behind c.put_at_line.ensures c.put_next.ensures)

pub returns-else-word-gt0 : goal.returns-else-word-gt0
returns-else-word-gt0 g c =
    subst (λ (text : List ℕ). GrewBy g.K.Sink.held g.K.Sink.faults c.args.pen.now c.put_at_line.new.pen text) (no_word c.args.name.now c.args.line c.args.word c.if-word-gt0.false)
    c.put_at_line.ensures
