-- What a list gains in a loop where each element of another list adds what belongs to it.
use Rattle.std.specs.Prelude.{◌≡◌, ℕ, ◌+◌, ◌<◌, ◌≤◌, List, [], ◌∷◌, ◌++◌, length, take, ◌⊎◌}
use Rattle.std.specs.List.{Contains}
use Rattle.std.proofs.Common.{sym, subst, inl, inr, get_or}
use Rattle.std.proofs.lemmas.List.Elements.{Contains-append_left, Contains-push, Contains-push_cases}
use Rattle.std.proofs.lemmas.List.{take_all}
use Rattle.bc_cells.specs.Gathers.{Gathers}
use Rattle.bc_cells.proofs.Lists.{contains_none}
use Rattle.bc_cells.proofs.Gather.{gathers_old, gathers_same, gathers_then, take_step}

-- c belongs to one of the list
abbrev pub Some_of : {X Y : Type 0} → List Y → (Y → X → Type 0) → X → Type 0
Some_of {X} {Y} ps R c = (p : Y) × Contains ps p × R p c

module _ {X Y : Type 0} (R : Y → X → Type 0) where
  pub collect_start : (xs : List X) (ps : List Y) → Gathers xs xs (Some_of (take 0 ps) R)
  collect_start xs ps = gathers_old xs (Some_of (take 0 ps) R) (λ c h. absurd (contains_none h.0 h.1))

  pub collect_step : (xs ys zs : List X) (ps : List Y) (i : ℕ) (p : Y) → i < length ps → p ≡ get_or ps i p → Gathers xs ys (Some_of (take i ps) R) → Gathers ys zs (R p) → Gathers xs zs (Some_of (take (i + 1) ps) R)
  collect_step xs ys zs ps i p within is a b =
      subst (λ (qs : List Y). Gathers xs zs (Some_of qs R)) (sym (take_step ps i p within is))
      (gathers_same xs zs (λ c. Some_of (take i ps) R c ⊎ R p c) (Some_of (take i ps ++ p ∷ []) R)
      (gathers_then xs ys zs (Some_of (take i ps) R) (R p) a b)
      (λ c h. elim h [
        | inl t ↦ (t.0, Contains-append_left (take i ps) (p ∷ []) t.0 t.1, t.2)
        | inr r ↦ (p, Contains-push (take i ps) p, r)
      ])
      (λ c h. elim (Contains-push_cases (take i ps) p h.0 h.1) [ inl t ↦ inl (h.0, t, h.2) | inr e ↦ inr (subst (λ q. R q c) (sym e) h.2) ]))

  pub collect_whole : (xs ys : List X) (ps : List Y) (i : ℕ) → length ps ≤ i → Gathers xs ys (Some_of (take i ps) R) → Gathers xs ys (Some_of ps R)
  collect_whole xs ys ps i over a = subst (λ (qs : List Y). Gathers xs ys (Some_of qs R)) (take_all i ps over) a

-- a condition that is met
pub gathers_where : {X : Type 0} (xs ys : List X) (C : Type 0) (Q : X → Type 0) → C → Gathers xs ys Q → Gathers xs ys (λ c. C × Q c)
gathers_where xs ys C Q k a = gathers_same xs ys Q (λ c. C × Q c) a (λ c q. (k, q)) (λ c q. q.1)
