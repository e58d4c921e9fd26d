-- A walk over contours that takes their elements one by one.
use Rattle.std.proofs.Common.{◌≡◌, ℕ, zero, suc, ◌+◌, ◌≤◌, ◌<◌, List, [], ◌∷◌, ◌++◌, length, drop, get_or, add-one, append_assoc, arith, refl, sym, ◌∙◌, ap, Some, None}
use Rattle.std.specs.Prelude.{All}
use Rattle.std.proofs.lemmas.List.{append-nil}
use Rattle.std.proofs.lemmas.List.Elements.{All-cons, All-nil, All-head, All-tail, All-same}
use Rattle.std.proofs.Common.{length-append, Option}
use Rattle.std.proofs.Math.Seq.{drop-cons}
use Rattle.bc_solid.specs.declared.contour_fault.ContourFault.{ContourFault}
use Rattle.bc_solid.specs.declared.element.Element.{Element}
use Rattle.bc_solid.specs.Closed.{joined, AreNear}
use Rattle.bc_solid.specs.ContourFaults.{fault_of, or_else, first_fault, IsFault}

-- the items are the first ones and then those of es before i; no fault is among the latter
pub record IsPart (first es items : List Element) (i : ℕ) : Type 0 where
  pub whole : items ++ drop i es ≡ first ++ es
  pub count : length items ≡ length first + i
  pub faults : first_fault (length items) (drop i es) ≡ first_fault (length first) es

-- the items are those of the contours before i; no fault is among them
pub record IsPartOfAll (contours : List (List Element)) (items : List Element) (i : ℕ) : Type 0 where
  pub whole : items ++ joined (drop i contours) ≡ joined contours
  pub faults : first_fault (length items) (joined (drop i contours)) ≡ first_fault 0 (joined contours)

none : {X : Type 0} (xs : List X) (i : ℕ) → length xs ≤ i → drop i xs ≡ []
none [] zero h = refl
none [] (suc i) h = refl
none (x ∷ xs) zero h = absurd (omega arith)
none (x ∷ xs) (suc i) h = none xs i (omega arith)

-- ---- faults and parts of lists

fault-append : (m : ℕ) (xs ys : List Element) → first_fault m (xs ++ ys) ≡ or_else (first_fault m xs) (first_fault (m + length xs) ys)
fault-append m [] ys = ap (λ k. first_fault k ys) (omega arith)
fault-append m (x ∷ xs) ys =
    ap (or_else (fault_of m x)) (fault-append (m + 1) xs ys)
    ∙ regroup (fault_of m x) (first_fault (m + 1) xs) (first_fault ((m + 1) + length xs) ys)
    ∙ ap (λ k. or_else (or_else (fault_of m x) (first_fault (m + 1) xs)) (first_fault k ys)) (moved m (length xs))
  where
    regroup : (f g h : Option ContourFault) → or_else f (or_else g h) ≡ or_else (or_else f g) h
    regroup None g h = refl
    regroup (Some f) g h = refl

    moved : (m n : ℕ) → (m + 1) + n ≡ m + suc n
    moved m n = omega arith

pub All-front : {X : Type 0} (P : X → Type 0) (xs ys : List X) → All P (xs ++ ys) → All P xs
All-front P [] ys h = All-nil P
All-front P (x ∷ xs) ys h = All-cons P x xs (All-head P x (xs ++ ys) h) (All-front P xs ys (All-tail P x (xs ++ ys) h))

pub All-back : {X : Type 0} (P : X → Type 0) (xs ys : List X) → All P (xs ++ ys) → All P ys
All-back P [] ys h = h
All-back P (x ∷ xs) ys h = All-back P xs ys (All-tail P x (xs ++ ys) h)

-- ---- one contour

pub end_whole : (first es items : List Element) (i : ℕ) → IsPart first es items i → length es ≤ i → items ≡ first ++ es
end_whole first es items i h l = sym (append-nil items) ∙ ap (λ xs. items ++ xs) (sym (none es i l)) ∙ h.whole

pub end_faults : (first es items : List Element) (i : ℕ) → IsPart first es items i → length es ≤ i → first_fault (length first) es ≡ None
end_faults first es items i h l = sym h.faults ∙ ap (first_fault (length items)) (none es i l)

-- ---- all contours

pub all_whole : (contours : List (List Element)) (items : List Element) (i : ℕ) → IsPartOfAll contours items i → length contours ≤ i → items ≡ joined contours
all_whole contours items i h l = sym (append-nil items) ∙ ap (λ xs. items ++ joined xs) (sym (none contours i l)) ∙ h.whole

pub all_faults : (contours : List (List Element)) (items : List Element) (i : ℕ) → IsPartOfAll contours items i → length contours ≤ i → first_fault 0 (joined contours) ≡ None
all_faults contours items i h l = sym h.faults ∙ ap (λ xs. first_fault (length items) (joined xs)) (none contours i l)

next : (contours : List (List Element)) (i : ℕ) (x : List Element) → i < length contours → x ≡ get_or contours i x → drop i contours ≡ x ∷ drop (i + 1) contours
next contours i x l e = drop-cons contours i x l ∙ ap (λ y. y ∷ drop (suc i) contours) (sym e) ∙ ap (λ k. x ∷ drop k contours) (sym (add-one i))

-- x is the next contour
module _ (contours : List (List Element)) (items : List Element) (i : ℕ) (x : List Element) (h : IsPartOfAll contours items i) (l : i < length contours) (e : x ≡ get_or contours i x) where
  left_is : joined (drop i contours) ≡ x ++ joined (drop (i + 1) contours)
  left_is = ap joined (next contours i x l e)

  left_whole : items ++ (x ++ joined (drop (i + 1) contours)) ≡ joined contours
  left_whole = ap (λ xs. items ++ xs) (sym left_is) ∙ h.whole

  left_faults : or_else (first_fault (length items) x) (first_fault (length items + length x) (joined (drop (i + 1) contours))) ≡ first_fault 0 (joined contours)
  left_faults = sym (fault-append (length items) x (joined (drop (i + 1) contours))) ∙ ap (first_fault (length items)) (sym left_is) ∙ h.faults

  pub near_next : All AreNear (joined contours) → All AreNear x
  near_next a = All-front AreNear x (joined (drop (i + 1) contours)) (All-back AreNear items (x ++ joined (drop (i + 1) contours)) (All-same AreNear _ _ left_whole a))

  pub fault_next : (f : ContourFault) → IsFault (length items) x f → IsFault 0 (joined contours) f
  fault_next f k m = sym left_faults ∙ ap (λ o. or_else o (first_fault (length items + length x) (joined (drop (i + 1) contours)))) (k m)

  pub step : (n : List Element) → n ≡ items ++ x → first_fault (length items) x ≡ None → IsPartOfAll contours n (i + 1)
  step n w k = record {
    whole = ap (λ xs. xs ++ joined (drop (i + 1) contours)) w ∙ append_assoc items x (joined (drop (i + 1) contours)) ∙ left_whole;
    faults =
        ap (λ m. first_fault m (joined (drop (i + 1) contours))) (ap length w ∙ length-append items x)
        ∙ ap (λ o. or_else o (first_fault (length items + length x) (joined (drop (i + 1) contours)))) (sym k)
        ∙ left_faults;
  }

-- y, the element at i, as x
pub of_item : (x y : List Element) (contours : List (List Element)) (i : ℕ) → x ≡ y → y ≡ get_or contours i y → x ≡ get_or contours i x
of_item x y contours i e h = e ∙ h ∙ ap (get_or contours i) (sym e)
