-- Each section of a text has lawful heights and is no longer than the text; lawful layers are those that are written.
use Rattle.std.proofs.Common.{◌≡◌, ℕ, ◌+◌, min, ℤ, pos, negsuc, Bool, true, false, ◌&&◌, List, [], ◌∷◌, length, codes, bytes_eq, Result, Ok, Err, if◌then◌else◌, refl, sym, subst, arith}
use Rattle.std.specs.Prelude.{◌≤ℤ◌, ◌<ℤ◌}
use Rattle.std.proofs.lemmas.Int.{ints}
use lib.Dec.{T}
use lib.Signed.{le_z, lt_z}
use Rattle.bc_algebra.specs.Within.{IsWithin}
use Rattle.bc_num.specs.declared.whole.NumFault.{NumFault}
use Rattle.bc_num.specs.Lines.{lines}
use Rattle.bc_num.specs.Whole.{whole}
use Rattle.bc_lex.specs.Words.{words_of}
use Rattle.bc_prism.specs.declared.row.Kind.{Kind}
use Rattle.bc_prism.specs.declared.row.Kind.TheVariants as kinds
use Rattle.bc_prism.specs.Rows.{in_range, between, heights, kind_of, rows_from}
use Rattle.std.specs.Prelude.{◌≤◌, ◌-◌, drop, All}
use Rattle.std.proofs.lemmas.List.{length-take, length-drop}
use Rattle.std.proofs.lemmas.List.Elements.{All-nil, All-cons, All-head, All-tail}
use Rattle.bc_prism.specs.Layers.{a_layer, layers_of, IsLawfulLayer}
use Rattle.bc_prism.specs.Prisms.{IsLayer}
use Rattle.bc_prism.specs.Laws.{LawfulAreLayers}
use Rattle.bc_prism.specs.Sections.{ASection, next_layer, part, with_section, sections_in, HasLawfulHeights, HeightsAreLawful, SectionsAreShort}

-- ---- tests

both_true : (a b : Bool) → (a && b) ≡ true → (a ≡ true) × (b ≡ true)
both_true true true e = (refl, refl)
both_true true false e = cc
both_true false b e = cc

le_of : (a b : ℤ) → le_z a b ≡ true → a ≤ℤ b
le_of a b e = record { le = subst T (sym e) tt }

lt_of : (a b : ℤ) → lt_z a b ≡ true → a <ℤ b
lt_of a b e = record { lt = subst T (sym e) tt }

near : (z : ℤ) → in_range z ≡ true → IsWithin 1023 z
near z e =
    let t = both_true (le_z (negsuc 1022) z) (le_z z (pos 1023)) e in
    let low : negsuc 1022 ≤ℤ z = le_of (negsuc 1022) z t.0 in
    let high : z ≤ℤ pos 1023 = le_of z (pos 1023) t.1 in
    record { within = omega (arith, ints) }

-- ---- kinds

-- a `LAYER` line that is lawful has lawful heights
abbrev IsLawfulKind : Kind → Type 0
IsLawfulKind (kinds.Layer z0 z1) = IsWithin 1023 z0 × IsWithin 1023 z1 × (z0 <ℤ z1)
IsLawfulKind kinds.Empty = Unit {0}
IsLawfulKind kinds.Other = Unit {0}
IsLawfulKind kinds.Bad = Unit {0}

when : (b : Bool) (j k : Kind) → (b ≡ true → IsLawfulKind j) → IsLawfulKind k → IsLawfulKind (if b then j else k)
when true j k f g = f refl
when false j k f g = g

between_lawful : (r s : Result ℤ NumFault) → IsLawfulKind (between r s)
between_lawful (Ok z0) (Ok z1) =
    when ((in_range z0 && in_range z1) && lt_z z0 z1) (kinds.Layer z0 z1) kinds.Bad
    (λ e. let t = both_true (in_range z0 && in_range z1) (lt_z z0 z1) e in let u = both_true (in_range z0) (in_range z1) t.0 in (near z0 u.0, near z1 u.1, lt_of z0 z1 t.1)) tt
between_lawful (Ok z0) (Err f) = tt
between_lawful (Err f) r = tt

heights_lawful : (ws : List (List ℕ)) → IsLawfulKind (heights ws)
heights_lawful [] = tt
heights_lawful (a ∷ []) = tt
heights_lawful (a ∷ b ∷ []) = between_lawful (whole a) (whole b)
heights_lawful (a ∷ b ∷ c ∷ ws) = tt

kind_lawful : (ws : List (List ℕ)) → IsLawfulKind (kind_of ws)
kind_lawful [] = tt
kind_lawful (w ∷ ws) = when (bytes_eq w (codes "LAYER")) (heights ws) kinds.Other (λ e. heights_lawful ws) tt

-- ---- sections

one_more : (k : Kind) (text : List ℕ) (later : List ASection) → IsLawfulKind k → All HasLawfulHeights later → All HasLawfulHeights (with_section k text later)
one_more (kinds.Layer z0 z1) text later h g = All-cons HasLawfulHeights (record { z0 = z0; z1 = z1; text = text }) later (record { low = h.0; high = h.1; up = h.2 }) g
one_more kinds.Empty text later h g = g
one_more kinds.Other text later h g = g
one_more kinds.Bad text later h g = g

all_lawful : (text : List ℕ) (end number at : ℕ) (ls : List (List ℕ)) → All HasLawfulHeights (sections_in text (rows_from end number at ls))
all_lawful text end number at [] = All-nil HasLawfulHeights
all_lawful text end number at (l ∷ ls) =
    let behind = min end (at + length l + 1) in
    let rest = rows_from end (number + 1) behind ls in
    one_more (kind_of (words_of l)) (part text behind (next_layer (length text) rest)) (sections_in text rest) (kind_lawful (words_of l)) (all_lawful text end (number + 1) behind ls)

pub heights_are_lawful : HeightsAreLawful
heights_are_lawful text = all_lawful text (length text) 1 0 (lines text)

-- ---- lengths

abbrev IsShort : List ℕ → ASection → Type 0
IsShort all s = length s.text ≤ length all

part_short : (text : List ℕ) (from to : ℕ) → length (part text from to) ≤ length text
part_short text from to = omega (arith, length-take (to - from) (drop from text), length-drop from text)

one_short : (k : Kind) (all text : List ℕ) (later : List ASection) → length text ≤ length all → All (IsShort all) later → All (IsShort all) (with_section k text later)
one_short (kinds.Layer z0 z1) all text later h g = All-cons (IsShort all) (record { z0 = z0; z1 = z1; text = text }) later h g
one_short kinds.Empty all text later h g = g
one_short kinds.Other all text later h g = g
one_short kinds.Bad all text later h g = g

all_short : (text : List ℕ) (end number at : ℕ) (ls : List (List ℕ)) → All (IsShort text) (sections_in text (rows_from end number at ls))
all_short text end number at [] = All-nil (IsShort text)
all_short text end number at (l ∷ ls) =
    let behind = min end (at + length l + 1) in
    let rest = rows_from end (number + 1) behind ls in
    one_short (kind_of (words_of l)) text (part text behind (next_layer (length text) rest)) (sections_in text rest) (part_short text behind (next_layer (length text) rest)) (all_short text end (number + 1) behind ls)

pub sections_are_short : SectionsAreShort
sections_are_short text = all_short text (length text) 1 0 (lines text)

-- ---- layers

pub lawful_are_layers : LawfulAreLayers
lawful_are_layers [] h = All-nil IsLayer
lawful_are_layers (l ∷ ls) h =
    let one : IsLawfulLayer (a_layer l) = All-head IsLawfulLayer (a_layer l) (layers_of ls) h in
    All-cons IsLayer l ls (record { low = one.low; high = one.high; up = one.up; flat = one.flat; leaves = one.allowed.ranges; nested = one.allowed.nested })
    (lawful_are_layers ls (All-tail IsLawfulLayer (a_layer l) (layers_of ls) h))
