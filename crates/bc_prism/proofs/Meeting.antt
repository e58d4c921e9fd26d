-- Sections looked at one after another.
use Rattle.std.proofs.Common.{◌≡◌, ◌<◌, ◌+◌, ℕ, zero, suc, Bool, List, [], ◌∷◌, ◌++◌, map, take, drop, length, get_or, drop-cons, Some, None, refl, sym, ap, ◌∙◌, arith, position, cond, nat_lt, not}
use Rattle.std.specs.Prelude.{slice_get}
use Rattle.std.proofs.Math.Seq.{take-suc}
use Rattle.std.specs.List.{prefix_len}
use Rattle.std.proofs.lemmas.List.{length-map, length-take, map-append}
use Rattle.bc_prism.specs.declared.fault.LayerFault.TheVariants as faults
use Rattle.bc_prism.specs.declared.layer.Section.{Section}
use Rattle.bc_prism.specs.Sections.{section, overlap, overlap_fault, first_overlap}

prefix_map : {A B : Type 0} (p : B → Bool) (f : A → B) (xs : List A) → prefix_len p (map f xs) ≡ prefix_len (λ x. p (f x)) xs
prefix_map p f [] = refl
prefix_map p f (x ∷ xs) = ap (λ n. cond (p (f x)) (1 + n) 0) (prefix_map p f xs)

position_map : {A B : Type 0} (p : B → Bool) (f : A → B) (xs : List A) → position p (map f xs) ≡ position (λ x. p (f x)) xs
position_map p f xs =
    ap (λ n. cond (nat_lt n (length (map f xs))) (Some n) None) (prefix_map (λ x. not (p x)) f xs)
    ∙ ap (λ m. cond (nat_lt (prefix_len (λ x. not (p (f x))) xs) m) (Some (prefix_len (λ x. not (p (f x))) xs)) None) (length-map xs f)

pub got : {A : Type 0} (xs : List A) (k : ℕ) (s : A) → slice_get xs k ≡ Some s → s ≡ get_or xs k s
got [] k s e = cc
got (x ∷ xs) zero s e = cc
got (x ∷ xs) (suc k) s e = got xs k s e

module _ (all : List Section) (k : ℕ) (s : Section) (lt : k < length all) (is : s ≡ get_or all k s) where
  rest : drop k all ≡ s ∷ drop (k + 1) all
  rest = let next : suc k ≡ k + 1 = omega arith in drop-cons all k s lt ∙ ap (λ y. y ∷ drop (suc k) all) (sym is) ∙ ap (λ j. s ∷ drop j all) next

  shown : first_overlap (map section (take k all)) (map section (drop k all))
      ≡ overlap_fault (position (λ t. overlap (section s) (section t)) (take k all)) k (first_overlap (map section (take k all) ++ section s ∷ []) (map section (drop (k + 1) all)))
  shown =
      let size : length (map section (take k all)) ≡ k = length-map (take k all) section ∙ length-take k all ∙ omega arith in
      ap (λ ts. first_overlap (map section (take k all)) (map section ts)) rest
      ∙ ap (λ o. overlap_fault o (length (map section (take k all))) (first_overlap (map section (take k all) ++ section s ∷ []) (map section (drop (k + 1) all)))) (position_map (overlap (section s)) section (take k all))
      ∙ ap (λ n. overlap_fault (position (λ t. overlap (section s) (section t)) (take k all)) n (first_overlap (map section (take k all) ++ section s ∷ []) (map section (drop (k + 1) all)))) size

  pub overlap_here : (i : ℕ) → position (λ t. overlap (section s) (section t)) (take k all) ≡ Some i → first_overlap (map section (take k all)) (map section (drop k all)) ≡ Some (faults.Overlap i k)
  overlap_here i e = shown ∙ ap (λ o. overlap_fault o k (first_overlap (map section (take k all) ++ section s ∷ []) (map section (drop (k + 1) all)))) e

  front : map section (take (k + 1) all) ≡ map section (take k all) ++ section s ∷ []
  front =
      let next : suc k ≡ k + 1 = omega arith in
      ap (λ j. map section (take j all)) (sym next) ∙ ap (map section) (take-suc all k s lt ∙ ap (λ y. take k all ++ y ∷ []) (sym is)) ∙ map-append section (take k all) (s ∷ [])

  pub overlap_later : position (λ t. overlap (section s) (section t)) (take k all) ≡ None
      → first_overlap (map section (take (k + 1) all)) (map section (drop (k + 1) all)) ≡ first_overlap (map section (take k all)) (map section (drop k all))
  overlap_later e =
      ap (λ ts. first_overlap ts (map section (drop (k + 1) all))) front
      ∙ sym (shown ∙ ap (λ o. overlap_fault o k (first_overlap (map section (take k all) ++ section s ∷ []) (map section (drop (k + 1) all)))) e)
