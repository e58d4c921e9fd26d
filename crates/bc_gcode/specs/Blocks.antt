-- A block: what the words of a line say, or the first word that is at fault. The words are RS274/NGC's with this project's
-- profile. The words of a line are taken from left to right; in the faults, l is the line and n the word's number there.
use Rattle.std.specs.Prelude.{ℕ, ◌+◌, Bool, true, false, ◌||◌, nat_eq, List, [], ◌∷◌, Option, Some, None, is_some, ℤ, pos, Result, Ok, Err, if◌then◌else◌}
use Rattle.std.specs.Ordering.{int_eq}
use Rattle.bc_num.specs.Whole.{whole}
use Rattle.bc_num.specs.declared.whole.NumFault.{NumFault}
use Rattle.bc_num.specs.declared.whole.NumFault.TheVariants as nums
use Rattle.bc_num.specs.Words.{Word, Words, ended, broken, word, line_words}
use Rattle.bc_solid.specs.Contours.{is_far}
use Rattle.bc_gcode.specs.declared.block.Motion.{Motion}
use Rattle.bc_gcode.specs.declared.block.Motion.TheVariants.{Rapid, Linear, Clockwise, CounterClockwise}
use Rattle.bc_gcode.specs.declared.block.Block.{Block}
use Rattle.bc_gcode.specs.declared.fault.GFault.{GFault}
use Rattle.bc_gcode.specs.declared.fault.GFault.TheVariants.{BadWord, UnknownWord, Incremental, TwinWord, NotWhole, TooFar}
use Rattle.bc_gcode.specs.Answers.{◌>>=◌}

abbrev pub no_words : Block
no_words = record { x = None; y = None; i = None; j = None; z = false; mode = None; ends = false }

abbrev pub among : ℤ → List ℕ → Bool
among v [] = false
among v (n ∷ ns) = int_eq v (pos n) || among v ns

-- ---- G words

-- G 0, 1, 2 and 3 set the motion mode, and G 80 clears it
abbrev pub mode_of : ℤ → Option (Option Motion)
mode_of v =
    if int_eq v (pos 0) then Some (Some Rapid)
    else (if int_eq v (pos 1) then Some (Some Linear)
    else (if int_eq v (pos 2) then Some (Some Clockwise)
    else (if int_eq v (pos 3) then Some (Some CounterClockwise)
    else (if int_eq v (pos 80) then Some None
    else None))))

-- G 17, 20, 21, 40, 49, 54, 90 and 94 are ignored
abbrev pub is_free_g : ℤ → Bool
is_free_g v = among v (17 ∷ 20 ∷ 21 ∷ 40 ∷ 49 ∷ 54 ∷ 90 ∷ 94 ∷ [])

-- TwinWord: a second word for the mode in one block; UnknownWord: a G word of no other kind
abbrev pub with_mode : ℕ → ℕ → Block → Option (Option Motion) → Result Block GFault
with_mode l n b None = Err (UnknownWord l n)
with_mode l n b (Some m) = if is_some b.mode then Err (TwinWord l n) else Ok (record b { mode = Some m })

-- UnknownWord: the number is not whole; Incremental: G 91
abbrev pub g_word : ℕ → ℕ → Block → Result ℤ NumFault → Result Block GFault
g_word l n b (Err _) = Err (UnknownWord l n)
g_word l n b (Ok v) =
    if int_eq v (pos 91) then Err (Incremental l n)
    else (if is_free_g v then Ok b
    else with_mode l n b (mode_of v))

-- ---- M words

-- M 2 and 30 end the program after their block
abbrev pub ends_program : ℤ → Bool
ends_program v = among v (2 ∷ 30 ∷ [])

-- M 3 to 9 are ignored
abbrev pub is_free_m : ℤ → Bool
is_free_m v = among v (3 ∷ 4 ∷ 5 ∷ 6 ∷ 7 ∷ 8 ∷ 9 ∷ [])

-- UnknownWord: the number is not whole, or that of no M word
abbrev pub m_word : ℕ → ℕ → Block → Result ℤ NumFault → Result Block GFault
m_word l n b (Err _) = Err (UnknownWord l n)
m_word l n b (Ok v) =
    if ends_program v then Ok (record b { ends = true })
    else (if is_free_m v then Ok b
    else Err (UnknownWord l n))

-- ---- axis words

-- TwinWord: a second Z; its number is free
abbrev pub z_word : ℕ → ℕ → Block → Result Block GFault
z_word l n b = if b.z then Err (TwinWord l n) else Ok (record b { z = true })

-- NotWhole: the number is not whole
abbrev pub number : ℕ → ℕ → Result ℤ NumFault → Result ℤ GFault
number l n (Ok v) = Ok v
number l n (Err nums.BadWord) = Err (BadWord l n)
number l n (Err nums.NotWhole) = Err (NotWhole l n)

-- I and J. TwinWord: a second one; then NotWhole
abbrev pub offset : ℕ → ℕ → Option ℤ → Result ℤ NumFault → Result ℤ GFault
offset l n (Some _) v = Err (TwinWord l n)
offset l n None v = number l n v

-- TooFar: past 1023
abbrev pub near : ℕ → ℕ → ℤ → Result ℤ GFault
near l n v = if is_far v then Err (TooFar l n) else Ok v

-- X and Y. TwinWord: a second one; then NotWhole; then TooFar
abbrev pub coordinate : ℕ → ℕ → Option ℤ → Result ℤ NumFault → Result ℤ GFault
coordinate l n old v = offset l n old v >>= near l n

-- ---- all words

-- N, F, S and T are ignored
abbrev pub is_free_letter : ℕ → Bool
is_free_letter b = nat_eq b 78 || (nat_eq b 70 || (nat_eq b 83 || nat_eq b 84))

-- a block with one more word: G, M, X, Y, I, J, Z, or a free letter. UnknownWord: any other letter
abbrev pub with_word : ℕ → ℕ → Block → Word → Result Block GFault
with_word l n b w =
    let v = whole w.number in
    if nat_eq w.letter 71 then g_word l n b v
    else (if nat_eq w.letter 77 then m_word l n b v
    else (if nat_eq w.letter 88 then coordinate l n b.x v >>= (λ x. Ok (record b { x = Some x }))
    else (if nat_eq w.letter 89 then coordinate l n b.y v >>= (λ y. Ok (record b { y = Some y }))
    else (if nat_eq w.letter 73 then offset l n b.i v >>= (λ i. Ok (record b { i = Some i }))
    else (if nat_eq w.letter 74 then offset l n b.j v >>= (λ j. Ok (record b { j = Some j }))
    else (if nat_eq w.letter 90 then z_word l n b
    else (if is_free_letter w.letter then Ok b
    else Err (UnknownWord l n))))))))

-- a block with the words that come behind n words. BadWord: bytes that begin no word
abbrev pub with_words : ℕ → ℕ → Block → Words → Result Block GFault
with_words l n b ended = Ok b
with_words l n b broken = Err (BadWord l (n + 1))
with_words l n b (word w ws) = with_word l (n + 1) b w >>= λ b. with_words l (n + 1) b ws

-- the block of line l, or its first word that is at fault
abbrev pub block_of : ℕ → List ℕ → Result Block GFault
block_of l line = with_words l 0 no_words (line_words line)
