-- A walk over a list by its indices: one step, and the end.
use Rattle.std.proofs.Common.{◌≡◌, ℕ, zero, suc, ◌+◌, ◌≤◌, ◌<◌, Bool, true, false, ◌||◌, List, [], ◌∷◌, length, drop, get_or, add-one, arith, refl, sym, ◌∙◌, ap}
use Rattle.std.proofs.Math.Seq.{drop-cons}
use Rattle.std.proofs.lemmas.Option.{slice_get_within, get_or_from_slice_get}
use Rattle.std.specs.Prelude.{slice_get, Some}
use Rattle.bc_num.specs.declared.p2.P2.{P2}
use Rattle.bc_solid.specs.declared.element.Element.{Element}
use Rattle.bc_solid.specs.HalfSpaces.{half_spaces, half_spaces_of}
use Rattle.bc_parity.specs.Parity.{xor}
use Rattle.bc_parity.specs.Sums.{odd}
use Rattle.bc_parity.specs.OnEdge.{is_on_any}
use Rattle.bc_parity.proofs.Xors.{xor_false, xor_assoc}
use Rattle.bc_parity.proofs.OnEdge.{on_append}

pub none : {X : Type 0} (es : List X) (i : ℕ) → length es ≤ i → drop i es ≡ []
none [] zero h = refl
none [] (suc i) h = refl
none (e ∷ es) zero h = absurd (omega arith)
none (e ∷ es) (suc i) h = none es i (omega arith)

pub next : {X : Type 0} (es : List X) (i : ℕ) (e : X) → slice_get es i ≡ Some e → drop i es ≡ e ∷ drop (i + 1) es
next es i e h =
    let l : i < length es = slice_get_within es i e h in
    let g : get_or es i e ≡ e = get_or_from_slice_get es i e e h in
    drop-cons es i e l ∙ ap (λ x. x ∷ drop (suc i) es) g ∙ ap (λ k. e ∷ drop k es) (sym (add-one i))

-- ---- what is counted so far, and what is left

pub counted : {X : Type 0} (f : X → Bool) (o r : Bool) (es : List X) (i : ℕ) → length es ≤ i → xor o (odd f (drop i es)) ≡ r → o ≡ r
counted f o r es i h k = sym (xor_false o) ∙ ap (λ us. xor o (odd f us)) (sym (none es i h)) ∙ k

pub one_more : {X : Type 0} (f : X → Bool) (o n b r : Bool) (es : List X) (i : ℕ) (e : X) → slice_get es i ≡ Some e → b ≡ f e → n ≡ xor o b → xor o (odd f (drop i es)) ≡ r → xor n (odd f (drop (i + 1) es)) ≡ r
one_more f o n b r es i e h t m k =
    ap (λ x. xor x (odd f (drop (i + 1) es))) (m ∙ ap (xor o) t)
    ∙ xor_assoc o (f e) (odd f (drop (i + 1) es))
    ∙ ap (λ us. xor o (odd f us)) (sym (next es i e h))
    ∙ k

-- ---- whether p is on a boundary of those that are left

left_on : (es : List Element) (i : ℕ) (e : Element) (p : P2) → slice_get es i ≡ Some e → is_on_any (half_spaces (drop i es)) p ≡ (is_on_any (half_spaces_of e) p || is_on_any (half_spaces (drop (i + 1) es)) p)
left_on es i e p h = ap (λ us. is_on_any (half_spaces us) p) (next es i e h) ∙ on_append (half_spaces_of e) (half_spaces (drop (i + 1) es)) p

pub found : (es : List Element) (i : ℕ) (e : Element) (p : P2) (r t : Bool) → slice_get es i ≡ Some e → t ≡ is_on_any (half_spaces_of e) p → t ≡ true → is_on_any (half_spaces (drop i es)) p ≡ r → true ≡ r
found es i e p r t h k y inv = ap (λ x. x || is_on_any (half_spaces (drop (i + 1) es)) p) (sym y ∙ k) ∙ sym (left_on es i e p h) ∙ inv

pub missed : (es : List Element) (i : ℕ) (e : Element) (p : P2) (r t : Bool) → slice_get es i ≡ Some e → t ≡ is_on_any (half_spaces_of e) p → t ≡ false → is_on_any (half_spaces (drop i es)) p ≡ r → is_on_any (half_spaces (drop (i + 1) es)) p ≡ r
missed es i e p r t h k n inv = ap (λ x. x || is_on_any (half_spaces (drop (i + 1) es)) p) (sym n ∙ k) ∙ sym (left_on es i e p h) ∙ inv

pub nowhere : (es : List Element) (i : ℕ) (p : P2) (r : Bool) → length es ≤ i → is_on_any (half_spaces (drop i es)) p ≡ r → false ≡ r
nowhere es i p r h inv = ap (λ us. is_on_any (half_spaces us) p) (sym (none es i h)) ∙ inv

pub past_end : {X : Type 0} (es : List X) (n i : ℕ) → n ≡ length es → n ≤ i → length es ≤ i
past_end es n i e h = omega arith
