-- Walks over regions and candidates: what is told of the regions so far, and the two lists of the candidates so far.
use Rattle.std.specs.Prelude.{◌≡◌, ℕ, zero, suc, ◌+◌, ◌<◌, Bool, true, false, not, cond, List, [], ◌∷◌, ◌++◌, length, take, map, filter, Some, slice_get}
use Rattle.std.specs.List.{AllZip}
use Rattle.std.proofs.Common.{get_or, add-one, refl, sym, ap, ◌∙◌, arith}
use Rattle.std.proofs.lemmas.List.{append-nil, map_push}
use Rattle.std.proofs.lemmas.List.Elements.{filter_more}
use Rattle.bc_solid.specs.declared.element.Element.{Element}
use Rattle.bc_natural.specs.Curves.{Curves}
use Rattle.bc_discs.specs.Candidates.{Region}
use Rattle.bc_discs.specs.declared.candidate.Candidate.{Candidate}
use Rattle.bc_classify.specs.declared.region_parity.RegionParity.{RegionParity}
use Rattle.bc_classify.specs.declared.split2.Split2.{Split2}
use Rattle.bc_classify.specs.declared.split2.Marked2.{Marked2}
use Rattle.bc_classify.specs.OddMasks.{is_odd_in, is_odd_candidate}
use Rattle.bc_classify.specs.RegionParities.{told, IsParityAt}
use Rattle.bc_classify.specs.Splits.{marked, IsSplit}

-- ---- two lists, place by place

module _ {A B : Type 0} (R : A → B → Type 0) where
  zip_suc : (xs : List A) (ys : List B) (i : ℕ) (x : A) (y : B) → i < length xs → x ≡ get_or xs i x → AllZip R (take i xs) ys → R x y → AllZip R (take (suc i) xs) (ys ++ y ∷ [])
  zip_suc [] ys i x y l e h r = absurd (omega arith)
  zip_suc (z ∷ xs) [] zero x y l e h r = (rw (← e) r, tt)
  zip_suc (z ∷ xs) (w ∷ ys) zero x y l e h r = absurd h
  zip_suc (z ∷ xs) [] (suc i) x y l e h r = absurd h
  zip_suc (z ∷ xs) (w ∷ ys) (suc i) x y l e h r = (h.0, zip_suc xs ys i x y (omega arith) e h.1 r)

  pub zip_more : (xs : List A) (ys : List B) (i : ℕ) (x : A) (y : B) → i < length xs → x ≡ get_or xs i x → AllZip R (take i xs) ys → R x y → AllZip R (take (i + 1) xs) (ys ++ y ∷ [])
  zip_more xs ys i x y l e h r = rw (add-one i) (zip_suc xs ys i x y l e h r)

  pub zip_length : (xs : List A) (ys : List B) → AllZip R xs ys → length xs ≡ length ys
  zip_length [] [] h = refl
  zip_length [] (y ∷ ys) h = absurd h
  zip_length (x ∷ xs) [] h = absurd h
  zip_length (x ∷ xs) (y ∷ ys) h = ap suc (zip_length xs ys h.1)

  zip_at : (xs : List A) (ys : List B) (k : ℕ) (y : B) → AllZip R xs ys → slice_get ys k ≡ Some y → (x : A) × (slice_get xs k ≡ Some x) × R x y
  zip_at [] [] k y h e = absurd (cc)
  zip_at [] (z ∷ ys) k y h e = absurd h
  zip_at (x ∷ xs) [] k y h e = absurd h
  zip_at (x ∷ xs) (z ∷ ys) zero y h e = let s : z ≡ y = cc in (x, refl, rw (← s) h.0)
  zip_at (x ∷ xs) (z ∷ ys) (suc k) y h e = zip_at xs ys k y h.1 e

-- what is told of a candidate
pub told_is : (es : List Element) (t : Curves) (regions : List Region) (parities : List RegionParity) (c : Candidate) (r : RegionParity) (b : Bool)
    → AllZip (λ region. IsParityAt es t region.inner) regions parities → slice_get parities c.region ≡ Some r → b ≡ told r c.mask → b ≡ is_odd_candidate es t regions c
told_is es t regions parities c r b zips e is =
    let at = zip_at (λ (region : Region). IsParityAt es t region.inner) regions parities c.region r zips e in
    is ∙ at.2 c.mask ∙ ap (is_odd_in es t c.mask) (sym at.1)

-- ---- the two lists

module _ {A B : Type 0} (f : A → B) (test : A → Bool) (xs : List A) (i : ℕ) (x : A) (l : i < length xs) (at : x ≡ get_or xs i x) where
  one_more : filter test (take (i + 1) xs) ≡ filter test (take i xs) ++ cond (test x) (x ∷ []) []
  one_more = filter_more test xs i x l ∙ ap (λ z. filter test (take i xs) ++ cond (test z) (z ∷ []) []) (sym at)

  pub put : test x ≡ true → map f (filter test (take (i + 1) xs)) ≡ map f (filter test (take i xs)) ++ f x ∷ []
  put h = ap (map f) (one_more ∙ ap (λ b. filter test (take i xs) ++ cond b (x ∷ []) []) h) ∙ map_push f (filter test (take i xs)) x

  pub left : test x ≡ false → map f (filter test (take (i + 1) xs)) ≡ map f (filter test (take i xs))
  left h = ap (map f) (one_more ∙ ap (λ b. filter test (take i xs) ++ cond b (x ∷ []) []) h ∙ append-nil (filter test (take i xs)))

module _ (es : List Element) (t : Curves) (regions : List Region) (all : List Candidate) (i : ℕ) (c : Candidate) (l : i < length all) (at : c ≡ get_or all i c) (old new : Split2) (h : IsSplit es t regions (take i all) old) where
  pub put_inside : is_odd_candidate es t regions c ≡ true → new.inside ≡ old.inside ++ marked c ∷ [] → new.outside ≡ old.outside → IsSplit es t regions (take (i + 1) all) new
  put_inside odd e f = record {
    inside = e ∙ ap (λ (ms : List Marked2). ms ++ marked c ∷ []) h.inside ∙ sym (put marked (is_odd_candidate es t regions) all i c l at odd);
    outside = f ∙ h.outside ∙ sym (left marked (λ c. not (is_odd_candidate es t regions c)) all i c l at (ap not odd));
  }

  pub put_outside : is_odd_candidate es t regions c ≡ false → new.inside ≡ old.inside → new.outside ≡ old.outside ++ marked c ∷ [] → IsSplit es t regions (take (i + 1) all) new
  put_outside even e f = record {
    inside = e ∙ h.inside ∙ sym (left marked (is_odd_candidate es t regions) all i c l at even);
    outside = f ∙ ap (λ (ms : List Marked2). ms ++ marked c ∷ []) h.outside ∙ sym (put marked (λ c. not (is_odd_candidate es t regions c)) all i c l at (ap not even));
  }
