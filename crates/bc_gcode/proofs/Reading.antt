-- One turn of the loops of the reader.
use Rattle.std.proofs.Common.{◌≡◌, ℕ, ◌+◌, Option, Some, None, Result, Ok, Err, refl, sym, ap, ◌∙◌}
use Rattle.bc_lex.specs.Places.{WordPlace}
use Rattle.bc_num.specs.Words.{Word, Words, word}
use Rattle.bc_lex.specs.GWords.{AWord, next_word, after_word}
use Rattle.bc_lex.specs.Left.{words_left, word_then}
use Rattle.bc_lex.proofs.Nexts.{next_word_is_first, moved, bad_at}
use Rattle.bc_gcode.specs.declared.block.Block.{Block}
use Rattle.bc_gcode.specs.declared.fault.GFault.{GFault}
use Rattle.bc_gcode.specs.declared.fault.GFault.TheVariants.{BadWord}
use Rattle.bc_gcode.specs.Answers.{◌>>=◌}
use Rattle.bc_gcode.specs.Blocks.{with_word, with_words}

-- what the words that are left make of a block
abbrev pub left_of : WordPlace → Block → Result Block GFault
left_of p b = with_words p.line p.nth b (words_left p)

abbrev pub plain : AWord → Word
plain w = record { letter = w.letter; number = w.number }

next-left : (p : WordPlace) (r : Result (Option AWord) (ℕ × ℕ)) → r ≡ next_word p → words_left p ≡ word_then r (words_left (after_word p))
next-left p r h = next_word_is_first p ∙ ap (λ q. word_then q (words_left (after_word p))) (sym h)

pub at_end : (p : WordPlace) (b : Block) → Ok None ≡ next_word p → left_of p b ≡ Ok b
at_end p b h = ap (with_words p.line p.nth b) (next-left p (Ok None) h)

pub at_bad : (p : WordPlace) (b : Block) (e : ℕ × ℕ) → Err e ≡ next_word p → left_of p b ≡ Err (BadWord e.0 e.1)
at_bad p b e h =
    ap (with_words p.line p.nth b) (next-left p (Err e) h) ∙ ap (λ (q : ℕ × ℕ). Err (BadWord q.0 q.1)) (sym (bad_at p e (sym h)))

one-step : (l n l1 n1 l2 n2 : ℕ) (b : Block) (w : Word) (ws : Words) → l1 ≡ l → n1 ≡ n + 1 → l2 ≡ l → n2 ≡ n + 1
    → with_words l n b (word w ws) ≡ (with_word l1 n1 b w >>= λ b. with_words l2 n2 b ws)
one-step l n l1 n1 l2 n2 b w ws a1 a2 a3 a4 = rw (a1, a2, a3, a4) refl

pub at_word : (p : WordPlace) (b : Block) (w : AWord) → Ok (Some w) ≡ next_word p
    → left_of p b ≡ (with_word w.line w.nth b (plain w) >>= left_of (after_word p))
at_word p b w h =
    let m = moved p w (sym h) in
    ap (with_words p.line p.nth b) (next-left p (Ok (Some w)) h)
    ∙ one-step p.line p.nth w.line w.nth (after_word p).line (after_word p).nth b (plain w) (words_left (after_word p)) m.word_line m.word_nth m.line m.nth
