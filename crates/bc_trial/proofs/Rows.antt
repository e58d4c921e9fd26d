-- A text as it grows: lines of numbers with one more number, and what a range makes with one more number.
use Rattle.std.proofs.Common.{◌≡◌, ◌<◌, ◌≤◌, ◌+◌, ◌-◌, ℕ, zero, suc, List, [], ◌∷◌, ◌++◌, length, take, get_or, map, arith, refl, sym, ap, ◌∙◌, append_assoc}
use Rattle.std.specs.Prelude.{codes}
use Rattle.std.specs.Fmt.{decimal}
use Rattle.std.specs.List.{flat_map, join_with_byte, range_with_len}
use Rattle.std.proofs.lemmas.Grind.{flat_map-append}
use Rattle.std.proofs.lemmas.List.{append-nil, map-append, take_more}
use Rattle.bc_trial.specs.Texts.{row, step, next, side, ended}

-- ---- pieces

-- behind a text of some pieces further ones are put
pub pieces_more : {A : Type 0} (put : A → List ℕ) (front old new : List ℕ) (xs more ys : List A) → ys ≡ xs ++ more → old ≡ front ++ flat_map put xs → new ≡ old ++ flat_map put more
    → new ≡ front ++ flat_map put ys
pieces_more put front old new xs more ys e h k =
    k ∙ ap (λ (t : List ℕ). t ++ flat_map put more) h ∙ append_assoc front (flat_map put xs) (flat_map put more)
    ∙ ap (λ (t : List ℕ). front ++ t) (sym (flat_map-append put xs more) ∙ ap (flat_map put) (sym e))

-- ---- ranges

range_more : (a n : ℕ) → range_with_len a (suc n) ≡ range_with_len a n ++ (a + n) ∷ []
range_more a zero = ap (λ (x : ℕ). x ∷ []) (omega arith)
range_more a (suc n) =
    let e : a + 1 + n ≡ a + suc n = omega arith in
    ap (λ (xs : List ℕ). a ∷ xs) (range_more (a + 1) n ∙ ap (λ (x : ℕ). range_with_len (a + 1) n ++ x ∷ []) e)

pub range-next : (a n i m : ℕ) → a + n ≡ i → n + 1 ≡ m → range_with_len a m ≡ range_with_len a n ++ i ∷ []
range-next a n i m e f =
    let s : m ≡ suc n = omega arith in
    ap (range_with_len a) s ∙ range_more a n ∙ ap (λ (x : ℕ). range_with_len a n ++ x ∷ []) e

pub flat_map-range-next : {A : Type 0} (f : ℕ → List A) (a n i m : ℕ) → a + n ≡ i → n + 1 ≡ m → flat_map f (range_with_len a m) ≡ flat_map f (range_with_len a n) ++ f i
flat_map-range-next f a n i m e s =
    ap (flat_map f) (range-next a n i m e s) ∙ flat_map-append f (range_with_len a n) (i ∷ []) ∙ ap (λ xs. flat_map f (range_with_len a n) ++ xs) (append-nil (f i))

pub map-range-next : {A : Type 0} (f : ℕ → A) (a n i m : ℕ) → a + n ≡ i → n + 1 ≡ m → map f (range_with_len a m) ≡ map f (range_with_len a n) ++ f i ∷ []
map-range-next f a n i m e s = ap (map f) (range-next a n i m e s) ∙ map-append f (range_with_len a n) (i ∷ [])

-- ---- a line of numbers

join-more : (c : ℕ) (y : List ℕ) (ys : List (List ℕ)) (x : List ℕ) → join_with_byte c (y ∷ (ys ++ x ∷ [])) ≡ join_with_byte c (y ∷ ys) ++ (c ∷ x)
join-more c y [] x = refl
join-more c y (z ∷ zs) x = ap (λ t. y ++ (c ∷ t)) (join-more c z zs x) ∙ sym (append_assoc y (c ∷ join_with_byte c (z ∷ zs)) (c ∷ x))

-- the first i of the numbers, as they stand on a line
abbrev pub numbers_text : List ℕ → ℕ → List ℕ
numbers_text ns i = join_with_byte 32 (map decimal (take i ns))

later : (ns : List ℕ) (i : ℕ) → 0 < i → i < length ns → numbers_text ns (i + 1) ≡ numbers_text ns i ++ (32 ∷ decimal (get_or ns i 0))
later ns zero h l = absurd (omega arith)
later [] (suc i) h l = absurd (omega arith)
later (n ∷ ns) (suc i) h l =
    let e : suc i + 1 ≡ suc (i + 1) = omega arith in
    ap (numbers_text (n ∷ ns)) e
    ∙ ap (λ xs. join_with_byte 32 (decimal n ∷ xs)) (ap (map decimal) (take_more ns i 0 (omega arith)) ∙ map-append decimal (take i ns) (get_or ns i 0 ∷ []))
    ∙ join-more 32 (decimal n) (map decimal (take i ns)) (decimal (get_or ns i 0))

pub next_number : (ns : List ℕ) (i : ℕ) (front old middle new : List ℕ) → 0 < i → i < length ns → old ≡ front ++ numbers_text ns i → middle ≡ old ++ 32 ∷ []
    → new ≡ middle ++ decimal (get_or ns i 0) → new ≡ front ++ numbers_text ns (i + 1)
next_number ns i front old middle new h l e m k =
    let x = decimal (get_or ns i 0) in
    k ∙ ap (λ (t : List ℕ). t ++ x) (m ∙ ap (λ (t : List ℕ). t ++ 32 ∷ []) e) ∙ append_assoc (front ++ numbers_text ns i) (32 ∷ []) x
    ∙ append_assoc front (numbers_text ns i) (32 ∷ x) ∙ ap (λ (t : List ℕ). front ++ t) (sym (later ns i h l))

pub first_number : (ns : List ℕ) (i : ℕ) (front old new : List ℕ) → i ≤ 0 → i < length ns → old ≡ front ++ numbers_text ns i → new ≡ old ++ decimal (get_or ns i 0)
    → new ≡ front ++ numbers_text ns (i + 1)
first_number [] i front old new z l e k = absurd (omega arith)
first_number (n ∷ ns) zero front old new z l e k = k ∙ ap (λ (t : List ℕ). t ++ decimal n) (e ∙ append-nil front)
first_number (n ∷ ns) (suc i) front old new z l e k = absurd (omega arith)

-- ---- the parts of a text

-- a step of the stair is two lines
pub step_lines : (y i : ℕ) (old middle new : List ℕ) → middle ≡ old ++ row ((i - 1) ∷ y ∷ i ∷ []) → new ≡ middle ++ row (i ∷ y ∷ i ∷ []) → new ≡ old ++ flat_map row (step y i)
step_lines y i old middle new e f =
    let a = row ((i - 1) ∷ y ∷ i ∷ []) in
    let b = row (i ∷ y ∷ i ∷ []) in
    f ∙ ap (λ (t : List ℕ). t ++ b) e ∙ append_assoc old a b ∙ ap (λ (t : List ℕ). old ++ (a ++ t)) (sym (append-nil b))

-- a face between the outlines is one
pub side_line : (m k j : ℕ) (old new : List ℕ) → j ≡ next m k → new ≡ old ++ row (4 ∷ k ∷ j ∷ (m + j) ∷ (m + k) ∷ []) → new ≡ old ++ flat_map row (side m k ∷ [])
side_line m k j old new e f =
    f ∙ ap (λ (x : ℕ). old ++ row (4 ∷ k ∷ x ∷ (m + x) ∷ (m + k) ∷ [])) e ∙ ap (λ (t : List ℕ). old ++ t) (sym (append-nil (row (side m k))))

-- the text of a plate: its rectangle, its holes, and the last line
pub plate_text : (front lines : List (List ℕ)) (text : List ℕ) → text ≡ (flat_map ended front ++ flat_map ended lines) ++ codes "M30\n" → text ≡ flat_map ended (front ++ (lines ++ codes "M30" ∷ []))
plate_text front lines text e =
    let last = codes "M30" ∷ [] in
    e ∙ append_assoc (flat_map ended front) (flat_map ended lines) (flat_map ended last)
    ∙ ap (λ (t : List ℕ). flat_map ended front ++ t) (sym (flat_map-append ended lines last)) ∙ sym (flat_map-append ended front (lines ++ last))
