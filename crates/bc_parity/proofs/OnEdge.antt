-- What the test of being on a boundary answers, over a list of half-spaces.
use Rattle.std.proofs.Common.{◌≡◌, Bool, true, false, ◌||◌, inl, inr, List, [], ◌∷◌, ◌++◌, refl, sym, ◌∙◌, ap}
use Rattle.std.specs.Prelude.{All, Any, IsTrue, ◌↔◌, pos, ◌*ℤ◌}
use Rattle.std.proofs.lemmas.List.Elements.{All-cons, All-nil, All-head, All-tail}
use Rattle.std.proofs.lemmas.Bool.{or_cases, or_left, or_parts, or_from, false_from_ne_true, true_from_ne_false}
use Rattle.std.proofs.lemmas.Bool.Decides.{Decides-int_eq}
use Rattle.bc_num.specs.declared.p2.P2.{P2}
use Rattle.bc_num.specs.Measures.{square_distance, turn}
use Rattle.bc_solid.specs.HalfSpaces.{HalfSpace2, Line, Disc, IsOn}
use Rattle.bc_parity.specs.OnEdge.{is_on, is_on_any}
use Rattle.bc_parity.proofs.Boxes.{any_head, any_tail}

on_is : (h : HalfSpace2) (p : P2) → (is_on h p ≡ true) ↔ IsOn h p
on_is (Line a b) p = Decides-int_eq (turn a b p) (pos 0)
on_is (Disc c r2) p = Decides-int_eq (square_distance c p) (r2 *ℤ (p.w *ℤ p.w))

pub on_any : (hs : List HalfSpace2) (p : P2) → is_on_any hs p ≡ true → Any (λ h. IsOn h p) hs
on_any [] p e = absurd (let q : true ≡ false = sym e in cc)
on_any (h ∷ hs) p e =
    elim (or_cases (is_on h p) (is_on_any hs p) e) [
      | inl k ↦ any_head (λ i. IsOn i p) h hs ((on_is h p).0 k)
      | inr k ↦ any_tail (λ i. IsOn i p) h hs (on_any hs p k)
    ]

pub off_all : (hs : List HalfSpace2) (p : P2) → is_on_any hs p ≡ false → All (λ h. IsOn h p → ⊥) hs
off_all [] p e = All-nil (λ h. IsOn h p → ⊥)
off_all (h ∷ hs) p e =
    All-cons (λ i. IsOn i p → ⊥) h hs
    (λ k. absurd (let q : true ≡ false = sym (or_left (is_on h p) (is_on_any hs p) ((on_is h p).1 k)) ∙ e in cc))
    (off_all hs p (or_parts (is_on h p) (is_on_any hs p) e).1)

pub off_is : (hs : List HalfSpace2) (p : P2) → All (λ h. IsOn h p → ⊥) hs → is_on_any hs p ≡ false
off_is [] p a = refl
off_is (h ∷ hs) p a = or_from (is_on h p) (is_on_any hs p) (false_from_ne_true (is_on h p) (λ k. All-head (λ i. IsOn i p → ⊥) h hs a ((on_is h p).0 k))) (off_is hs p (All-tail (λ i. IsOn i p → ⊥) h hs a))

-- one by one
at_place : {X : Type 0} (P : X → Type 0) (xs : List X) → All (λ x. P x → ⊥) xs → Any P xs → ⊥
at_place P xs a h = (subst_at h.3 (a h.0 h.1 h.2)) h.4
  where
    subst_at : {x y : _} → x ≡ y → (P x → ⊥) → P y → ⊥
    subst_at e f k = f (rw e k)

pub any_on : (hs : List HalfSpace2) (p : P2) → Any (λ h. IsOn h p) hs → is_on_any hs p ≡ true
any_on hs p h = true_from_ne_false (is_on_any hs p) (λ e. at_place (λ i. IsOn i p) hs (off_all hs p e) h)

pub on_append : (hs ks : List HalfSpace2) (p : P2) → is_on_any (hs ++ ks) p ≡ (is_on_any hs p || is_on_any ks p)
on_append [] ks p = refl
on_append (h ∷ hs) ks p = ap (λ x. is_on h p || x) (on_append hs ks p) ∙ regroup (is_on h p) (is_on_any hs p) (is_on_any ks p)
  where
    regroup : (x y z : Bool) → (x || (y || z)) ≡ ((x || y) || z)
    regroup true y z = refl
    regroup false y z = refl

-- what an answer of the test says
pub on_answer : (hs : List HalfSpace2) (p : P2) (r : Bool) → r ≡ is_on_any hs p → IsTrue r ↔ Any (λ h. IsOn h p) hs
on_answer hs p r e = (λ t. on_any hs p (sym e ∙ t), λ a. e ∙ any_on hs p a)

pub off_answer : (hs : List HalfSpace2) (p : P2) (r : Bool) → r ≡ is_on_any hs p → (r ≡ false) ↔ All (λ h. IsOn h p → ⊥) hs
off_answer hs p r e = (λ f. off_all hs p (sym e ∙ f), λ a. e ∙ off_is hs p a)
