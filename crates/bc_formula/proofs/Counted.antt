-- What is counted of a division and of the notes of its formula is what the boundary and the products have: a part for each
-- mask, a leaf for each half-space, and a note for each product and each literal.
use Rattle.std.proofs.Common.{◌≡◌, ◌≢◌, ℕ, ◌+◌, suc, Bool, true, false, not, List, [], ◌∷◌, ◌++◌, map, length, refl, sym, ap, ◌∙◌, inl, inr, arith}
use Rattle.std.specs.Prelude.{cond, filter}
use Rattle.std.specs.List.{All, AllPairs, AllZip, Contains}
use Rattle.std.proofs.lemmas.List.{length-map, length-append}
use Rattle.std.proofs.lemmas.List.Elements.{All-head, All-tail, All-contains, All-map}
use Rattle.bc_num.specs.declared.v2.V2.{V2}
use Rattle.bc_num.specs.declared.disc2.Disc2.{Disc2}
use Rattle.bc_space.specs.declared.line2.Line2.{Line2}
use Rattle.bc_natural.specs.Curves.{Curves}
use Rattle.bc_natural.specs.Planes.{Planes}
use Rattle.bc_cover.specs.Covers.{Literal}
use Rattle.bc_tree.specs.declared.tree.Leaf.{Leaf}
use Rattle.bc_tree.specs.declared.tree.Leaf.TheVariants.{Disc}
use Rattle.bc_tree.specs.declared.product.Product.{Product}
use Rattle.bc_text.specs.declared.note.Mark.{Mark}
use Rattle.bc_text.specs.declared.note.Note.{Note}
use Rattle.bc_notes.specs.declared.shown.Shown.{Shown}
use Rattle.bc_notes.specs.Products.{literals_of}
use Rattle.bc_notes.specs.Noted.{Subject, the_product, the_literal, Noted, noted_literals, noted_product, noted_products, noted}
use Rattle.bc_formula.specs.declared.terms.Division.{Division}
use Rattle.bc_formula.specs.Geometry.{Geometry}
use Rattle.bc_formula.specs.ContourGeometry.{strip_leaf, leaves_of}
use Rattle.bc_formula.specs.MeshGeometry.{slabs_of}
use Rattle.bc_formula.specs.Notes.{AreNotes, IsNote, SaysOf}
use Rattle.bc_formula.specs.Shown.{masks_of, AreShownParts}
use Rattle.bc_formula.specs.Divisions.{IsDivision}
use Rattle.bc_formula.specs.Tallies.{AreParted, is_disc, is_own, literal_count}

-- ---- how many pass a test

longer : {X : Type 0} (b : Bool) (x : X) (us vs ws : List X) → length us ≡ length vs + length ws → length (cond b (x ∷ us) us) ≡ length (cond b (x ∷ vs) vs) + length ws
longer true x us vs ws e = omega (arith, e)
longer false x us vs ws e = e

pub count_both : {X : Type 0} (f : X → Bool) (xs ys : List X) → length (filter f (xs ++ ys)) ≡ length (filter f xs) + length (filter f ys)
count_both f [] ys = omega arith
count_both f (x ∷ xs) ys = longer (f x) x (filter f (xs ++ ys)) (filter f xs) (filter f ys) (count_both f xs ys)

alike : {A B : Type 0} (b c : Bool) (x : A) (y : B) (us : List A) (vs : List B) → b ≡ c → length us ≡ length vs → length (cond b (x ∷ us) us) ≡ length (cond c (y ∷ vs) vs)
alike true true x y us vs e h = ap suc h
alike true false x y us vs e h = cc
alike false true x y us vs e h = cc
alike false false x y us vs e h = h

pub count_alike : {X : Type 0} (f g : X → Bool) (xs : List X) → All (λ x. f x ≡ g x) xs → length (filter f xs) ≡ length (filter g xs)
count_alike f g [] h = refl
count_alike f g (x ∷ xs) h = alike (f x) (g x) x x (filter f xs) (filter g xs) (All-head (λ x. f x ≡ g x) x xs h) (count_alike f g xs (All-tail (λ x. f x ≡ g x) x xs h))

count_zip : {A B : Type 0} (R : A → B → Type 0) (f : A → Bool) (g : B → Bool) (xs : List A) (ys : List B) → AllZip R xs ys → ((x : A) (y : B) → R x y → f x ≡ g y) → length (filter f xs) ≡ length (filter g ys)
count_zip R f g [] [] h same = refl
count_zip R f g [] (y ∷ ys) h same = absurd h
count_zip R f g (x ∷ xs) [] h same = absurd h
count_zip R f g (x ∷ xs) (y ∷ ys) h same = alike (f x) (g y) x y (filter f xs) (filter g ys) (same x y h.0) (count_zip R f g xs ys h.1 same)

add_same : (a b c d : ℕ) → a ≡ c → b ≡ d → a + b ≡ c + d
add_same a b c d e f = omega (arith, e, f)

one_more : (a b d : ℕ) → a ≡ 1 → b ≡ d → a + b ≡ suc d
one_more a b d e f = omega (arith, e, f)

-- ---- products and literals

abbrev is_product : Subject → Bool
is_product (the_product i p) = true
is_product (the_literal p l) = false

abbrev of_product : Noted → Bool
of_product e = is_product e.subject

abbrev of_literal : Noted → Bool
of_literal e = not (is_product e.subject)

no_products : (n : ℕ) (p : Product) (ls : List Literal) → length (filter of_product (noted_literals n p ls)) ≡ 0
no_products n p [] = refl
no_products n p (l ∷ ls) = no_products (n + 1) p ls

all_literals : (n : ℕ) (p : Product) (ls : List Literal) → length (filter of_literal (noted_literals n p ls)) ≡ length ls
all_literals n p [] = refl
all_literals n p (l ∷ ls) = ap suc (all_literals (n + 1) p ls)

products_counted : (bits n i : ℕ) (ps : List Product) → length (filter of_product (noted_products bits n i ps)) ≡ length ps
products_counted bits n i [] = refl
products_counted bits n i (p ∷ ps) =
    let next = n + 3 + length (literals_of bits p) in
    count_both of_product (noted_product bits n i p) (noted_products bits next (i + 1) ps)
    ∙ one_more (length (filter of_product (noted_product bits n i p))) (length (filter of_product (noted_products bits next (i + 1) ps))) (length ps)
    (ap suc (no_products (n + 3) p (literals_of bits p))) (products_counted bits next (i + 1) ps)

literals_counted : (bits n i : ℕ) (ps : List Product) → length (filter of_literal (noted_products bits n i ps)) ≡ literal_count bits ps
literals_counted bits n i [] = refl
literals_counted bits n i (p ∷ ps) =
    let next = n + 3 + length (literals_of bits p) in
    count_both of_literal (noted_product bits n i p) (noted_products bits next (i + 1) ps)
    ∙ add_same (length (filter of_literal (noted_product bits n i p))) (length (filter of_literal (noted_products bits next (i + 1) ps))) (length (literals_of bits p)) (literal_count bits ps)
    (all_literals (n + 3) p (literals_of bits p)) (literals_counted bits next (i + 1) ps)

-- ---- notes

module _ {B P X : Type 0} (k : Geometry B P X) (b : B) (box : X) (leaves : List Leaf) (products : List Product) where
  own_is : (s : Subject) (mark : Mark) → SaysOf k b box leaves products s mark → is_product s ≡ is_own mark
  own_is (the_product i q) mark (inl (p, such, named, e)) = sym (ap is_own e)
  own_is (the_product i q) mark (inr (e, fails, none)) = sym (ap is_own e)
  own_is (the_literal q l) mark (inl (p, such, named, e)) = sym (ap is_own e)
  own_is (the_literal q l) mark (inr (e, fails, none)) = sym (ap is_own e)

  -- there is one note for each product, and one for each literal
  pub notes_counted : (notes : List Note) → AreNotes k b box leaves products notes
      → (length (filter (λ (n : Note). is_own n.mark) notes) ≡ length products) × (length (filter (λ (n : Note). not (is_own n.mark)) notes) ≡ literal_count (length leaves) products)
  notes_counted notes are = (
    sym (count_zip (IsNote k b box leaves products) of_product (λ (n : Note). is_own n.mark) (noted (length leaves) products) notes are.each (λ e n is. own_is e.subject n.mark is.says))
        ∙ products_counted (length leaves) 1 0 products,
    sym (count_zip (IsNote k b box leaves products) of_literal (λ (n : Note). not (is_own n.mark)) (noted (length leaves) products) notes are.each (λ e n is. ap not (own_is e.subject n.mark is.says)))
        ∙ literals_counted (length leaves) 1 0 products,
  )

-- ---- parts

mask_among : (Is : ℕ → Type 0) (ms : List Shown) → All (λ (m : Shown). Is m.mask) ms → (mask : ℕ) → Contains (masks_of ms) mask → Is mask
mask_among Is ms h mask has = All-contains Is (masks_of ms) mask (All-map Is (λ (m : Shown). m.mask) ms h) has

-- lists of all masks have one entry for each part
pub parted : {B P X : Type 0} (k : Geometry B P X) (b : B) (box : X) (mask_at : P → ℕ) (inside outside : List Shown) → AreShownParts k k.has_mask b box mask_at inside outside
    → AllPairs (λ (one other : ℕ). one ≢ other) (masks_of inside ++ masks_of outside) → AreParted k b box (length inside + length outside) (length inside)
parted k b box mask_at inside outside parts distinct = record {
  odd = masks_of inside;
  even = masks_of outside;
  odd_are = λ mask. (λ has. parts.every_inside mask has, λ has. mask_among (k.has_mask b box true) inside parts.inside_masks mask has);
  even_are = λ mask. (λ has. parts.every_outside mask has, λ has. mask_among (k.has_mask b box false) outside parts.outside_masks mask has);
  once = distinct;
  parts_are = sym (length-append (masks_of inside) (masks_of outside) ∙ ap (λ n. n + length (masks_of outside)) (length-map inside (λ (m : Shown). m.mask)) ∙ ap (λ n. length inside + n) (length-map outside (λ (m : Shown). m.mask)));
  inside_are = sym (length-map inside (λ (m : Shown). m.mask));
}

-- and so have those of a division
pub parts_counted : {B P X : Type 0} (k : Geometry B P X) (b : B) (box : X) (d : Division) → IsDivision k k.has_mask b box d → AreParted k b box (length d.inside.items + length d.outside.items) (length d.inside.items)
parts_counted k b box d is = parted k b box is.mask_at d.inside.items d.outside.items is.parts is.masks.distinct

-- ---- half-spaces

no_discs : (ls : List (Line2 × V2)) → length (filter is_disc (map strip_leaf ls)) ≡ 0
no_discs [] = refl
no_discs (l ∷ ls) = no_discs ls

all_strips : (ls : List (Line2 × V2)) → length (filter (λ (l : Leaf). not (is_disc l)) (map strip_leaf ls)) ≡ length ls
all_strips [] = refl
all_strips (l ∷ ls) = ap suc (all_strips ls)

all_discs : (ds : List Disc2) → length (filter is_disc (map Disc ds)) ≡ length ds
all_discs [] = refl
all_discs (d ∷ ds) = ap suc (all_discs ds)

no_strips : (ds : List Disc2) → length (filter (λ (l : Leaf). not (is_disc l)) (map Disc ds)) ≡ 0
no_strips [] = refl
no_strips (d ∷ ds) = no_strips ds

nothing_before : (a b c : ℕ) → a ≡ 0 → b ≡ c → a + b ≡ c
nothing_before a b c e f = omega (arith, e, f)

nothing_behind : (a b c : ℕ) → a ≡ c → b ≡ 0 → a + b ≡ c
nothing_behind a b c e f = omega (arith, e, f)

pub curves_counted : (t : Curves) → (length (filter is_disc (leaves_of t)) ≡ length t.discs) × (length (filter (λ (l : Leaf). not (is_disc l)) (leaves_of t)) ≡ length t.lines)
curves_counted t = (
  count_both is_disc (map strip_leaf t.lines) (map Disc t.discs)
      ∙ nothing_before (length (filter is_disc (map strip_leaf t.lines))) (length (filter is_disc (map Disc t.discs))) (length t.discs) (no_discs t.lines) (all_discs t.discs),
  count_both (λ (l : Leaf). not (is_disc l)) (map strip_leaf t.lines) (map Disc t.discs)
      ∙ nothing_behind (length (filter (λ (l : Leaf). not (is_disc l)) (map strip_leaf t.lines))) (length (filter (λ (l : Leaf). not (is_disc l)) (map Disc t.discs))) (length t.lines) (all_strips t.lines) (no_strips t.discs),
)

pub planes_counted : (t : Planes) → length (filter (λ (l : Leaf). not (is_disc l)) (slabs_of t)) ≡ length t
planes_counted [] = refl
planes_counted (h ∷ t) = ap suc (planes_counted t)
