-- The fault of an arc, case by case.
use Rattle.std.proofs.Common.{◌≡◌, ℕ, true, false, Some, None, refl, sym, ap, ◌∙◌, w64, FitsSigned, to_z, of_z}
use Rattle.std.proofs.lemmas.Int.{to_z-of_z}
use Rattle.std.specs.Ordering.{int_eq}
use lib.IntN.{ℤ}
use Rattle.bc_num.specs.declared.v2.V2.{V2}
use Rattle.bc_num.specs.Measures.{square_between, is_same}
use Rattle.bc_solid.specs.declared.contour_fault.ContourFault.TheVariants.{ZeroRadius, SkewArc}
use Rattle.bc_solid.specs.ContourFaults.{arc_fault}

pub zero : (n : ℕ) (a b c : V2) → is_same c a ≡ true → arc_fault n a b c ≡ Some (ZeroRadius n)
zero n a b c h = rw h refl

pub even : (n : ℕ) (a b c : V2) → is_same c a ≡ false → int_eq (square_between c b) (square_between c a) ≡ true → arc_fault n a b c ≡ None
even n a b c h k = rw (h, k) refl

pub skew : (n : ℕ) (a b c : V2) → is_same c a ≡ false → int_eq (square_between c b) (square_between c a) ≡ false → arc_fault n a b c ≡ Some (SkewArc n (square_between c a) (square_between c b))
skew n a b c h k = rw (h, k) refl

-- ---- the same with numbers as the program hands them on

abbrev pub back : ℤ → ℤ
back z = to_z w64 (of_z w64 z)

pub even_back : (n : ℕ) (a b c : V2) (s e : ℤ) → FitsSigned w64 s → FitsSigned w64 e → s ≡ square_between c a → e ≡ square_between c b → is_same c a ≡ false → int_eq (back e) (back s) ≡ true → arc_fault n a b c ≡ None
even_back n a b c s e fs fe p q h k =
    even n a b c h
    (sym (ap (λ z. int_eq z (square_between c a)) (to_z-of_z w64 e fe ∙ q)) ∙ sym (ap (λ z. int_eq (back e) z) (to_z-of_z w64 s fs ∙ p)) ∙ k)

pub skew_back : (n : ℕ) (a b c : V2) (s e : ℤ) → FitsSigned w64 s → FitsSigned w64 e → s ≡ square_between c a → e ≡ square_between c b → is_same c a ≡ false → int_eq (back e) (back s) ≡ false → arc_fault n a b c ≡ Some (SkewArc n (back s) (back e))
skew_back n a b c s e fs fe p q h k =
    skew n a b c h
    (sym (ap (λ z. int_eq z (square_between c a)) (to_z-of_z w64 e fe ∙ q)) ∙ sym (ap (λ z. int_eq (back e) z) (to_z-of_z w64 s fs ∙ p)) ∙ k)
    ∙ ap (λ z. Some (SkewArc n z (square_between c b))) (sym (to_z-of_z w64 s fs ∙ p))
    ∙ ap (λ z. Some (SkewArc n (back s) z)) (sym (to_z-of_z w64 e fe ∙ q))
