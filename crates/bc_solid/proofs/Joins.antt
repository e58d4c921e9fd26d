-- Edges that have the same ends.
use Rattle.std.proofs.Common.{◌≡◌, Bool, true, false, ◌&&◌, ◌||◌, ◌⊎◌, inl, inr, List, length, refl, sym, ap, ◌∙◌}
use Rattle.std.specs.Ordering.{int_eq}
use Rattle.std.proofs.lemmas.Bool.{and_parts, and_from, or_cases, cases_Bool}
use Rattle.std.proofs.lemmas.Bool.Decides.{Decides-int_eq}
use Rattle.std.proofs.lemmas.List.Elements.{filter_agree}
use Rattle.bc_num.specs.declared.v3.V3.{V3}
use Rattle.bc_num.proofs.Same.{v3_same}
use Rattle.bc_solid.specs.Meshes.{Edge3, is_same3, joins, occurrences}

or_comm : (a b : Bool) → (a || b) ≡ (b || a)
or_comm true true = refl
or_comm true false = refl
or_comm false true = refl
or_comm false false = refl

pub same_yes : (u v : V3) → u ≡ v → is_same3 u v ≡ true
same_yes u v e =
    and_from (int_eq u.x v.x) (int_eq u.y v.y && int_eq u.z v.z) ((Decides-int_eq u.x v.x).1 (ap (λ (t : V3). t.x) e))
    (and_from (int_eq u.y v.y) (int_eq u.z v.z) ((Decides-int_eq u.y v.y).1 (ap (λ (t : V3). t.y) e)) ((Decides-int_eq u.z v.z).1 (ap (λ (t : V3). t.z) e)))

pub same_true : (u v : V3) → is_same3 u v ≡ true → u ≡ v
same_true u v h =
    let a = and_parts (int_eq u.x v.x) (int_eq u.y v.y && int_eq u.z v.z) h in
    let b = and_parts (int_eq u.y v.y) (int_eq u.z v.z) a.1 in
    v3_same u v ((Decides-int_eq u.x v.x).0 a.0) ((Decides-int_eq u.y v.y).0 b.0) ((Decides-int_eq u.z v.z).0 b.1)

abbrev pub flipped : Edge3 → Edge3
flipped e = record { from = e.to; to = e.from }

edge : (k e : Edge3) → k.from ≡ e.from → k.to ≡ e.to → e ≡ k
edge k e f g = λ i. record { from = sym f i; to = sym g i }

pub joins-cases : (k e : Edge3) → joins k e ≡ true → (e ≡ k) ⊎ (e ≡ flipped k)
joins-cases k e h =
    elim (or_cases (is_same3 k.from e.from && is_same3 k.to e.to) (is_same3 k.from e.to && is_same3 k.to e.from) h) [
      | inl x ↦
          let p = and_parts (is_same3 k.from e.from) (is_same3 k.to e.to) x in
          inl (edge k e (same_true k.from e.from p.0) (same_true k.to e.to p.1))
      | inr x ↦
          let p = and_parts (is_same3 k.from e.to) (is_same3 k.to e.from) x in
          inr (edge (flipped k) e (same_true k.to e.from p.1) (same_true k.from e.to p.0))
    ]

pub joins-self : (k : Edge3) → joins k k ≡ true
joins-self k =
    ap (λ b. b || is_same3 k.from k.to && is_same3 k.to k.from)
    (and_from (is_same3 k.from k.from) (is_same3 k.to k.to) (same_yes k.from k.from refl) (same_yes k.to k.to refl))

joins-flipped : (z e : Edge3) → joins z (flipped e) ≡ joins z e
joins-flipped z e = or_comm (is_same3 z.from e.to && is_same3 z.to e.from) (is_same3 z.from e.from && is_same3 z.to e.to)

-- an edge joins two with the same ends alike
pub joins-same : (z y e : Edge3) → joins y e ≡ true → joins z y ≡ joins z e
joins-same z y e h =
    elim (joins-cases y e h) [
      | inl x ↦ ap (joins z) (sym x)
      | inr x ↦ sym (joins-flipped z y) ∙ ap (joins z) (sym x)
    ]

pub joins-turn : (x y : Edge3) → joins x y ≡ true → joins y x ≡ true
joins-turn x y h = joins-same y x y h ∙ joins-self y

joins-comm : (x y : Edge3) → joins x y ≡ joins y x
joins-comm x y =
    elim (cases_Bool (joins x y)) [
      | inl h ↦ h ∙ sym (joins-turn x y h)
      | inr h ↦
          elim (cases_Bool (joins y x)) [
            | inl k ↦ joins-turn y x k ∙ sym k
            | inr k ↦ h ∙ sym k
          ]
    ]

-- two edges with the same ends join the same ones, and occur equally often
pub alike : (k e x : Edge3) → joins k e ≡ true → joins k x ≡ joins e x
alike k e x h = joins-comm k x ∙ joins-same x k e h ∙ joins-comm x e

pub occurrences-same : (k e : Edge3) (es : List Edge3) → joins k e ≡ true → occurrences k es ≡ occurrences e es
occurrences-same k e es h = ap length (filter_agree (joins k) (joins e) (λ x. alike k e x h) es)
