-- What lists gain, step by step of a loop that pushes onto them.
use Rattle.std.specs.Prelude.{◌≡◌, ◌↔◌, ℕ, ◌+◌, ◌<◌, ◌≤◌, List, [], ◌∷◌, ◌++◌, length, take, ◌⊎◌}
use Rattle.std.specs.List.{All, Contains}
use Rattle.std.proofs.Common.{sym, ap, ◌∙◌, subst, inl, inr, get_or}
use Rattle.std.proofs.lemmas.List.Elements.{All-more, Contains-append_left, Contains-push, Contains-push_cases}
use Rattle.std.proofs.lemmas.List.{take_all, take_more}
use Rattle.bc_cells.specs.Gathers.{Gathers, Selects}
use Rattle.bc_cells.proofs.Lists.{contains_none, once_nil, once_push, once_front, once_fresh}

module _ {X : Type 0} where
  pub gathers_push : (xs : List X) (y : X) → Gathers xs (xs ++ y ∷ []) (λ c. c ≡ y)
  gathers_push xs y = record {
    kept = λ c h. Contains-append_left xs (y ∷ []) c h;
    found = λ c e. subst (λ z. Contains (xs ++ y ∷ []) z) (sym e) (Contains-push xs y);
    only = λ c h. elim (Contains-push_cases xs y c h) [ inl a ↦ inl a | inr e ↦ inr (sym e) ];
  }

  pub gathers_old : (xs : List X) (Q : X → Type 0) → ((c : X) → Q c → Contains xs c) → Gathers xs xs Q
  gathers_old xs Q had = record { kept = λ c h. h; found = had; only = λ c h. inl h }

  pub gathers_then : (xs ys zs : List X) (Q R : X → Type 0) → Gathers xs ys Q → Gathers ys zs R → Gathers xs zs (λ c. Q c ⊎ R c)
  gathers_then xs ys zs Q R a b = record {
    kept = λ c h. b.kept c (a.kept c h);
    found = λ c h. elim h [ inl q ↦ b.kept c (a.found c q) | inr r ↦ b.found c r ];
    only = λ c h. elim (b.only c h) [ inl y ↦ elim (a.only c y) [ inl x ↦ inl x | inr q ↦ inr (inl q) ] | inr r ↦ inr (inr r) ];
  }

  pub gathers_same : (xs ys : List X) (Q R : X → Type 0) → Gathers xs ys Q → ((c : X) → Q c → R c) → ((c : X) → R c → Q c) → Gathers xs ys R
  gathers_same xs ys Q R a to back = record {
    kept = a.kept;
    found = λ c h. a.found c (back c h);
    only = λ c h. elim (a.only c h) [ inl x ↦ inl x | inr q ↦ inr (to c q) ];
  }

  -- one more element, as a loop reads it
  pub all_step : (Q : X → Type 0) (xs : List X) (i : ℕ) (x : X) → i < length xs → x ≡ get_or xs i x → All Q (take i xs) → Q x → All Q (take (i + 1) xs)
  all_step Q xs i x within is all this = All-more Q xs i x within all (subst Q is this)

  -- all of them, at the end of a loop
  pub all_whole : (Q : X → Type 0) (xs : List X) (i : ℕ) → length xs ≤ i → All Q (take i xs) → All Q xs
  all_whole Q xs i over all = rw (take_all i xs over) at all

  pub take_step : (xs : List X) (i : ℕ) (x : X) → i < length xs → x ≡ get_or xs i x → take (i + 1) xs ≡ take i xs ++ x ∷ []
  take_step xs i x within is = take_more xs i x within ∙ ap (λ y. take i xs ++ y ∷ []) (sym is)

  pub here : (xs : List X) (i : ℕ) (x : X) → i < length xs → x ≡ get_or xs i x → Contains xs x
  here xs i x within is = (i, within, sym is)

  -- a loop that gathers
  pub gather_step : (xs ys zs ps : List X) (i : ℕ) (p : X) (Q : X → Type 0) → i < length ps → p ≡ get_or ps i p → Gathers xs ys (λ c. Contains (take i ps) c × Q c) → Gathers ys zs (λ c. (c ≡ p) × Q c) → Gathers xs zs (λ c. Contains (take (i + 1) ps) c × Q c)
  gather_step xs ys zs ps i p Q within is a b =
      rw (take_step ps i p within is) (gathers_same xs zs (λ c. (Contains (take i ps) c × Q c) ⊎ ((c ≡ p) × Q c)) (λ c. Contains (take i ps ++ p ∷ []) c × Q c)
      (gathers_then xs ys zs (λ c. Contains (take i ps) c × Q c) (λ c. (c ≡ p) × Q c) a b)
      (λ c h. elim h [
        | inl t ↦ (Contains-append_left (take i ps) (p ∷ []) c t.0, t.1)
        | inr t ↦ (subst (λ z. Contains (take i ps ++ p ∷ []) z) (sym t.0) (Contains-push (take i ps) p), t.1)
      ])
      (λ c h. elim (Contains-push_cases (take i ps) p c h.0) [ inl t ↦ inl (t, h.1) | inr e ↦ inr (sym e, h.1) ]))

  pub gather_whole : (xs ys ps : List X) (i : ℕ) (Q : X → Type 0) → length ps ≤ i → Gathers xs ys (λ c. Contains (take i ps) c × Q c) → Gathers xs ys (λ c. Contains ps c × Q c)
  gather_whole xs ys ps i Q over a = rw (take_all i ps over) at a

  -- all that a list gained that began with nothing
  pub gathers_all : (xs ys : List X) (Q : X → Type 0) → xs ≡ [] → Gathers xs ys Q → (c : X) → Contains ys c ↔ Q c
  gathers_all xs ys Q e a c = (
    λ k. elim (a.only c k) [ inl x ↦ absurd (contains_none c (subst (λ (zs : List X). Contains zs c) e x)) | inr q ↦ q ],
    λ q. a.found c q,
  )

  -- a loop that keeps some of a list
  pub selects_none : (xs ys : List X) (Q : X → Type 0) → ys ≡ [] → Selects (take 0 xs) ys Q
  selects_none xs ys Q e = subst (λ (zs : List X). Selects (take 0 xs) zs Q) (sym e) (record {
    exact = λ c. (λ k. absurd (contains_none c k), λ t. absurd (contains_none c t.0));
    once = λ o. once_nil;
  })

  pub selects_more : (xs ys : List X) (i : ℕ) (p : X) (Q : X → Type 0) → i < length xs → p ≡ get_or xs i p → Selects (take i xs) ys Q → Q p → Selects (take (i + 1) xs) (ys ++ p ∷ []) Q
  selects_more xs ys i p Q within is s q =
      subst (λ (zs : List X). Selects zs (ys ++ p ∷ []) Q) (sym (take_step xs i p within is)) (record {
        exact = λ c. (
          λ k. elim (Contains-push_cases ys p c k) [
            | inl h ↦ let t = (s.exact c).0 h in (Contains-append_left (take i xs) (p ∷ []) c t.0, t.1)
            | inr e ↦ (subst (λ z. Contains (take i xs ++ p ∷ []) z) e (Contains-push (take i xs) p), subst Q e q)
          ],
          λ t. elim (Contains-push_cases (take i xs) p c t.0) [
            | inl h ↦ Contains-append_left ys (p ∷ []) c ((s.exact c).1 (h, t.1))
            | inr e ↦ subst (λ z. Contains (ys ++ p ∷ []) z) e (Contains-push ys p)
          ],
        );
        once = λ o. once_push ys p (s.once (once_front (take i xs) (p ∷ []) o)) (λ h. once_fresh (take i xs) p o ((s.exact p).0 h).0);
      })

  pub selects_skip : (xs ys : List X) (i : ℕ) (p : X) (Q : X → Type 0) → i < length xs → p ≡ get_or xs i p → Selects (take i xs) ys Q → (Q p → ⊥) → Selects (take (i + 1) xs) ys Q
  selects_skip xs ys i p Q within is s off =
      subst (λ (zs : List X). Selects zs ys Q) (sym (take_step xs i p within is)) (record {
        exact = λ c. (
          λ k. let t = (s.exact c).0 k in (Contains-append_left (take i xs) (p ∷ []) c t.0, t.1),
          λ t. elim (Contains-push_cases (take i xs) p c t.0) [
            | inl h ↦ (s.exact c).1 (h, t.1)
            | inr e ↦ absurd (off (subst Q (sym e) t.1))
          ],
        );
        once = λ o. s.once (once_front (take i xs) (p ∷ []) o);
      })

  pub selects_whole : (xs ys : List X) (i : ℕ) (Q : X → Type 0) → length xs ≤ i → Selects (take i xs) ys Q → Selects xs ys Q
  selects_whole xs ys i Q over s = rw (take_all i xs over) at s

  -- what is kept of a list, as what a list gains that began with nothing
  pub selects_gathers : (xs ys : List X) (Q R : X → Type 0) → Selects xs ys Q → ((c : X) → Q c → R c) → ((c : X) → R c → Q c) → Gathers [] ys (λ c. Contains xs c × R c)
  selects_gathers xs ys Q R s to back = record {
    kept = λ c h. absurd (contains_none c h);
    found = λ c t. (s.exact c).1 (t.0, back c t.1);
    only = λ c k. let t = (s.exact c).0 k in inr (t.0, to c t.1);
  }

  -- nothing of nothing
  pub none_kept : (xs ys : List X) (Q : X → Type 0) → xs ≡ [] → ys ≡ [] → (c : X) → Contains ys c ↔ (Contains xs c × Q c)
  none_kept xs ys Q d e c = (
    λ k. absurd (contains_none c (subst (λ (zs : List X). Contains zs c) e k)),
    λ t. absurd (contains_none c (subst (λ (zs : List X). Contains zs c) d t.0)),
  )
