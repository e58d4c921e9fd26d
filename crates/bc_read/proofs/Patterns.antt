-- The tokens that patterns stand for: of a whole node's opening or leaf, with its first name and the name of its shape.
use Rattle.std.proofs.Common.{◌≡◌, ℕ, suc, Bool, true, false, ◌&&◌, nat_eq, List, [], ◌∷◌, ◌++◌, length, drop, codes, bytes_eq, refl, ap, ◌∙◌, arith, if◌then◌else◌}
use Rattle.std.proofs.lemmas.Slice.Eq.{bytes_eq-Decides}
use Rattle.std.specs.Prelude.{ℤ}
use Rattle.std.specs.Fmt.{signed_decimal}
use Rattle.bc_read.specs.declared.part.Op.TheVariants.{Union, Meet, Cut}
use Rattle.bc_read.specs.declared.part.Form.TheVariants.{Slab, Strip, Disc, Block, Tile}
use Rattle.bc_read.specs.declared.part.Part.{Part}
use Rattle.bc_read.specs.declared.part.Part.TheVariants.{Opening, Moved, Placed, Closing}
use Rattle.bc_read.specs.Table.{is_number_place, word_of}

-- the names that the table has beside the patterns, a letter for each
abbrev pub word_at : ℕ → List ℕ
word_at b =
    if nat_eq b 117 then codes "union"
    else (if nat_eq b 105 then codes "intersection"
    else (if nat_eq b 100 then codes "difference"
    else (if nat_eq b 109 then codes "multmatrix"
    else (if nat_eq b 99 then codes "cube"
    else (if nat_eq b 113 then codes "square"
    else (if nat_eq b 111 then codes "circle"
    else word_of b))))))

-- the pattern of a part, with all that stands before it in its node
abbrev pub lead : Part → List ℕ
lead (Opening Union) = codes "u(){"
lead (Opening Meet) = codes "i(){"
lead (Opening Cut) = codes "d(){"
lead Moved = codes "t([#,#,#])"
lead Placed = codes "m([[#,#,#,#],[#,#,#,#],[#,#,#,#],[#,#,#,#]])t([#,#,#])"
lead (Closing Slab) = codes "m([[#,#,#,#],[#,#,#,#],[#,#,#,#],[#,#,#,#]])t([#,#,#])c([#,#,#]);"
lead (Closing Strip) = codes "m([[#,#,#,#],[#,#,#,#],[#,#,#,#],[#,#,#,#]])t([#,#,#])q([#,#]);"
lead (Closing Disc) = codes "t([#,#,#])o(r=s(#));"
lead (Closing Block) = codes "t([#,#,#])c([#,#,#]);"
lead (Closing Tile) = codes "t([#,#,#])q([#,#]);"

-- no byte stands for one of these names
abbrev pub plain : List ℕ → Bool
plain [] = true
plain (b ∷ bs) = bytes_eq (word_at b) (word_of b) && plain bs

-- no byte of a plain pattern stands for another name than in the table
pub plain-here : (b : ℕ) (wants : List ℕ) (c d : Bool) → bytes_eq (word_at b) (word_of b) ≡ c → plain wants ≡ d → (c && d) ≡ true → (word_at b ≡ word_of b) × (plain wants ≡ true)
plain-here b wants true true e f h = ((bytes_eq-Decides (word_at b) (word_of b)).0 e, f)
plain-here b wants true false e f h = cc h
plain-here b wants false d e f h = cc h

abbrev pub head_word : List ℤ → List ℕ
head_word [] = []
head_word (z ∷ zs) = signed_decimal z

-- the tokens of a pattern with these numbers
abbrev pub spelled : List ℕ → List ℤ → List (List ℕ)
spelled [] ns = []
spelled (b ∷ bs) ns = if is_number_place b then head_word ns ∷ spelled bs (drop 1 ns) else word_at b ∷ spelled bs ns

-- how many numbers a pattern has
abbrev pub places : List ℕ → ℕ
places [] = 0
places (b ∷ bs) = if is_number_place b then suc (places bs) else places bs

word-by : (c : Bool) (x : List ℕ) (xs : List (List ℕ)) (y : List ℕ) (ys : List (List ℕ)) (x' y' : List (List ℕ)) (w : List (List ℕ)) → x' ≡ xs ++ w → y' ≡ ys ++ w
    → (if c then x ∷ x' else y ∷ y') ≡ (if c then x ∷ xs else y ∷ ys) ++ w
word-by true x xs y ys x' y' w e f = ap (λ l. x ∷ l) e
word-by false x xs y ys x' y' w e f = ap (λ l. y ∷ l) f

pub spelled-word : (bs : List ℕ) (ns : List ℤ) (b : ℕ) → is_number_place b ≡ false → spelled (bs ++ b ∷ []) ns ≡ spelled bs ns ++ word_at b ∷ []
spelled-word [] ns b e = ap (λ c. if c then head_word ns ∷ [] else word_at b ∷ []) e
spelled-word (u ∷ us) ns b e =
    word-by (is_number_place u) (head_word ns) (spelled us (drop 1 ns)) (word_at u) (spelled us ns) (spelled (us ++ b ∷ []) (drop 1 ns)) (spelled (us ++ b ∷ []) ns) (word_at b ∷ [])
    (spelled-word us (drop 1 ns) b e) (spelled-word us ns b e)

pub places-word : (bs : List ℕ) (b : ℕ) → is_number_place b ≡ false → places (bs ++ b ∷ []) ≡ places bs
places-word [] b e = ap (λ c. if c then 1 else 0) e
places-word (u ∷ us) b e = ap (λ n. if is_number_place u then suc n else n) (places-word us b e)

pub places-number : (bs : List ℕ) (b : ℕ) → is_number_place b ≡ true → places (bs ++ b ∷ []) ≡ suc (places bs)
places-number [] b e = ap (λ c. if c then 1 else 0) e
places-number (u ∷ us) b e = ap (λ n. if is_number_place u then suc n else n) (places-number us b e) ∙ suc-out (is_number_place u)
  where
    suc-out : (c : Bool) → (if c then suc (suc (places us)) else suc (places us)) ≡ suc (if c then suc (places us) else places us)
    suc-out true = refl
    suc-out false = refl

abbrev NumberLast : List ℕ → Type 0
NumberLast bs = (ns : List ℤ) (b : ℕ) (z : ℤ) → is_number_place b ≡ true → length ns ≡ places bs → spelled (bs ++ b ∷ []) (ns ++ z ∷ []) ≡ spelled bs ns ++ signed_decimal z ∷ []

number-by : (u : ℕ) (us : List ℕ) (c : Bool) → NumberLast us → (ns : List ℤ) (b : ℕ) (z : ℤ) → is_number_place b ≡ true → length ns ≡ (if c then suc (places us) else places us)
    → (if c then head_word (ns ++ z ∷ []) ∷ spelled (us ++ b ∷ []) (drop 1 (ns ++ z ∷ [])) else word_at u ∷ spelled (us ++ b ∷ []) (ns ++ z ∷ []))
    ≡ (if c then head_word ns ∷ spelled us (drop 1 ns) else word_at u ∷ spelled us ns) ++ signed_decimal z ∷ []
number-by u us true h [] b z e f = cc f
number-by u us true h (n ∷ ns) b z e f = ap (λ l. signed_decimal n ∷ l) (h ns b z e (let k : suc (length ns) ≡ suc (places us) = f in omega arith))
number-by u us false h ns b z e f = ap (λ l. word_at u ∷ l) (h ns b z e f)

pub spelled-number : (bs : List ℕ) → NumberLast bs
spelled-number [] [] b z e f = ap (λ c. if c then signed_decimal z ∷ [] else word_at b ∷ []) e
spelled-number [] (n ∷ ns) b z e f = cc f
spelled-number (u ∷ us) ns b z e f = number-by u us (is_number_place u) (spelled-number us) ns b z e f
