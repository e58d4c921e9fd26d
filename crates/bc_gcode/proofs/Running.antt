-- One block of a program.
use Rattle.std.proofs.Common.{◌≡◌, ℕ, ◌+◌, List, ◌∷◌, true, false, Option, Some, None, Result, Ok, Err, refl, sym, ap, ◌∙◌, subst, if◌then◌else◌}
use Rattle.bc_lex.specs.Places.{LinePlace}
use Rattle.bc_lex.specs.Lines.{ALine, next_line, after_line}
use Rattle.bc_lex.specs.Left.{lines_left, line_then}
use Rattle.bc_lex.proofs.Nexts.{next_line_is_first, line_moved}
use Rattle.bc_solid.specs.declared.element.Element.{Element}
use Rattle.bc_solid.specs.declared.raw_contours.RawContours.{RawContours}
use Rattle.bc_gcode.specs.declared.block.Block.{Block}
use Rattle.bc_gcode.specs.declared.program.Program.{Program}
use Rattle.bc_gcode.specs.declared.fault.GFault.{GFault}
use Rattle.bc_gcode.specs.declared.fault.GFault.TheVariants.{Memory}
use Rattle.bc_gcode.specs.Answers.{◌>>=◌, Does}
use Rattle.bc_gcode.specs.Blocks.{block_of}
use Rattle.bc_gcode.specs.Program.{block_done}
use Rattle.bc_gcode.specs.Gcode.{finish, run, contours_of, Gives, Reads}

-- what the lines left at a place lead to
abbrev pub left_from : LinePlace → Program → Result (List (List Element)) GFault
left_from p s = run (p.number + 1) s (lines_left p)

-- behind a block
abbrev pub behind : LinePlace → ALine → Block → Program → Result (List (List Element)) GFault
behind p l b s = if b.ends then finish l.number s else left_from (after_line p) s

next-left : (p : LinePlace) (o : Option ALine) → o ≡ next_line p → lines_left p ≡ line_then o (lines_left (after_line p))
next-left p o h = next_line_is_first p ∙ ap (λ q. line_then q (lines_left (after_line p))) (sym h)

pub at_last : (p : LinePlace) (s : Program) → None ≡ next_line p → left_from p s ≡ finish (p.number + 1) s
at_last p s h = ap (run (p.number + 1) s) (next-left p None h)

one-block : (n m k : ℕ) (s : Program) (line : List ℕ) (rest : List (List ℕ)) → m ≡ n → k ≡ n + 1
    → run n s (line ∷ rest) ≡ (block_of m line >>= (λ b. block_done m b s >>= (λ s. if b.ends then finish m s else run k s rest)))
one-block n m k s line rest a1 a2 = rw (a1, a2) refl

pub at_line : (p : LinePlace) (s : Program) (l : ALine) → Some l ≡ next_line p
    → left_from p s ≡ (block_of l.number l.text >>= (λ b. block_done l.number b s >>= behind p l b))
at_line p s l h =
    let m = line_moved p l (sym h) in
    ap (run (p.number + 1) s) (next-left p (Some l) h)
    ∙ one-block (p.number + 1) l.number ((after_line p).number + 1) s l.text (lines_left (after_line p)) m.line_number (ap (λ n. n + 1) m.number)

pub block_fails : (p : LinePlace) (s : Program) (l : ALine) (f : GFault) → Some l ≡ next_line p → Err f ≡ block_of l.number l.text → left_from p s ≡ Err f
block_fails p s l f h e = at_line p s l h ∙ ap (λ r. r >>= (λ b. block_done l.number b s >>= behind p l b)) (sym e)

pub block_read : (p : LinePlace) (s : Program) (l : ALine) (b : Block) → Some l ≡ next_line p → Ok b ≡ block_of l.number l.text
    → left_from p s ≡ (block_done l.number b s >>= behind p l b)
block_read p s l b h e = at_line p s l h ∙ ap (λ r. r >>= (λ b. block_done l.number b s >>= behind p l b)) (sym e)

pub along : (r : Result RawContours GFault) (x y : Result (List (List Element)) GFault) → y ≡ x → Gives r x → Gives r y
along r x y e h = let P : Result (List (List Element)) GFault → Type 0 = λ w. Gives r w in subst P (sym e) h

pub gives_err : (f : GFault) (want : Result (List (List Element)) GFault) → want ≡ Err f → Gives (Err f) want
gives_err Memory want e = tt
gives_err _ want e = e

pub failed : (f : GFault) (new : Program) (done : Result Program GFault) (want : Result (List (List Element)) GFault) (more : Program → Result (List (List Element)) GFault)
    → Does (Err f) new done → want ≡ (done >>= more) → Gives (Err f) want
failed Memory new done want more h e = tt
failed _ new done want more h e = e ∙ ap (λ r. r >>= more) h

pub block_did : (p : LinePlace) (s : Program) (l : ALine) (b : Block) (t : Program) → Some l ≡ next_line p → Ok b ≡ block_of l.number l.text
    → block_done l.number b s ≡ Ok t → left_from p s ≡ behind p l b t
block_did p s l b t h e d = block_read p s l b h e ∙ ap (λ r. r >>= behind p l b) d

pub block_ended : (p : LinePlace) (s : Program) (l : ALine) (b : Block) (t : Program) → Some l ≡ next_line p → Ok b ≡ block_of l.number l.text
    → block_done l.number b s ≡ Ok t → b.ends ≡ true → left_from p s ≡ finish l.number t
block_ended p s l b t h e d q = block_did p s l b t h e d ∙ ap (λ v. if v then finish l.number t else left_from (after_line p) t) q

pub block_went : (p : LinePlace) (s : Program) (l : ALine) (b : Block) (t : Program) → Some l ≡ next_line p → Ok b ≡ block_of l.number l.text
    → block_done l.number b s ≡ Ok t → b.ends ≡ false → left_from p s ≡ left_from (after_line p) t
block_went p s l b t h e d q = block_did p s l b t h e d ∙ ap (λ v. if v then finish l.number t else left_from (after_line p) t) q

pub reads : (r : Result RawContours GFault) (text : List ℕ) → Gives r (contours_of text) → Reads r text
reads (Ok raw) text h = h
reads (Err Memory) text h = tt
reads (Err _) text h = h
