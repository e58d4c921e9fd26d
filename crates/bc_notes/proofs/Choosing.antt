-- A choice among the masks of a list: the best point so far, while one after the other is looked at.
use Rattle.std.proofs.Common.{◌≡◌, ℕ, ◌<◌, ◌≤◌, ◌+◌, true, false, cond, List, [], ◌∷◌, length, take, get_or, Option, None, Some, inl, inr, refl, sym, ap, subst, arith}
use Rattle.std.specs.Prelude.{All, Any, Contains, IsSome, is_some}
use Rattle.std.proofs.lemmas.Bool.{cases_Bool}
use Rattle.std.proofs.lemmas.List.{take_all}
use Rattle.std.proofs.lemmas.List.Elements.{All-nil, All-cons, All-head, All-tail, All-more, All-filter, All-contains_itself}
use Rattle.bc_text.specs.declared.note.Spot.{Spot}
use Rattle.bc_notes.specs.declared.shown.Shown.{Shown}
use Rattle.bc_notes.specs.Chosen.{IsSpotWhere, IsChosen, seen_of}
use Rattle.bc_notes.specs.Bests.{IsSpotOf, IsStep}

-- ---- masks that have a point

-- each is one of the whole list
pub seen_contained : (list seen : List Shown) → seen ≡ seen_of list → All (Contains list) seen
seen_contained list seen is = subst (All (Contains list)) (sym is) (All-filter (λ (m : Shown). is_some m.spot) (Contains list) list (All-contains_itself list))

pub no_spot : (spot : Option Spot) → is_some spot ≡ false → spot ≡ None
no_spot None h = refl
no_spot (Some s) h = absurd (cc)

-- where those that will do have no point, none of the whole list has
none_seen : (Will : ℕ → Type 0) (list : List Shown) → All (λ (m : Shown). Will m.mask → m.spot ≡ None) (seen_of list) → All (λ (m : Shown). Will m.mask → m.spot ≡ None) list
none_seen Will [] h = All-nil (λ (m : Shown). Will m.mask → m.spot ≡ None)
none_seen Will (m ∷ ms) h =
    let P : Shown → Type 0 = λ m. Will m.mask → m.spot ≡ None in
    elim (cases_Bool (is_some m.spot)) [
      | inl t ↦
          let k : All P (m ∷ seen_of ms) = subst (All P) (ap (λ b. cond b (m ∷ seen_of ms) (seen_of ms)) t) h in
          All-cons P m ms (All-head P m (seen_of ms) k) (none_seen Will ms (All-tail P m (seen_of ms) k))
      | inr f ↦
          let k : All P (seen_of ms) = subst (All P) (ap (λ b. cond b (m ∷ seen_of ms) (seen_of ms)) f) h in
          All-cons P m ms (λ will. no_spot m.spot f) (none_seen Will ms k)
    ]

-- ---- the choice

module _ (Will : ℕ → Type 0) (list : List Shown) where
  -- a point of a mask of the list that will do; or none, and none of these masks that will do has a point
  abbrev pub IsBest : List Shown → Option Spot → Type 0
  IsBest front (Some s) = Any (λ (m : Shown). Will m.mask × (m.spot ≡ Some s)) list
  IsBest front None = All (λ (m : Shown). Will m.mask → m.spot ≡ None) front

  -- no mask has been looked at
  pub best_start : (seen : List Shown) (best : Option Spot) → IsSpotOf Will list best → IsBest (take 0 seen) best
  best_start seen (Some s) h = h
  best_start seen None h = λ i d l. absurd (no_less i l)
    where
      no_less : (i : ℕ) → i < 0 → ⊥
      no_less i l = omega arith

  -- one mask more has been looked at
  pub best_step : (seen : List Shown) → All (Contains list) seen → (i : ℕ) (m : Shown) → i < length seen → m ≡ get_or seen i m → (old new : Option Spot) → IsStep (Will m.mask) m.spot old new → IsBest (take i seen) old → IsBest (take (i + 1) seen) new
  best_step seen of i m within is old (Some s) step h =
      let at : Contains list m = subst (Contains list) (sym is) (of i m within) in
      elim step.one_of [
        | inl e ↦ subst (IsBest (take i seen)) (sym e) h
        | inr w ↦ (at.0, m, at.1, at.2, (w.0, sym w.1))
      ]
  best_step seen of i m within is old None step h =
      let P : Shown → Type 0 = λ n. Will n.mask → n.spot ≡ None in
      let none = step.none refl in
      All-more P seen i m within (subst (IsBest (take i seen)) none.0 h) (subst P is none.1)

  -- all masks of the list have been looked at
  pub best_all : (best : Option Spot) (i : ℕ) → length list ≤ i → IsBest (take i list) best → IsChosen Will list best
  best_all (Some s) i over h = h
  best_all None i over h = subst (All (λ (m : Shown). Will m.mask → m.spot ≡ None)) (take_all i list over) h

  -- all masks that have a point have been looked at
  pub best_seen : (seen : List Shown) → seen ≡ seen_of list → (best : Option Spot) (i : ℕ) → length seen ≤ i → IsBest (take i seen) best → IsChosen Will list best
  best_seen seen of (Some s) i over h = h
  best_seen seen of None i over h = none_seen Will list (subst (All (λ (m : Shown). Will m.mask → m.spot ≡ None)) of (subst (All (λ (m : Shown). Will m.mask → m.spot ≡ None)) (take_all i seen over) h))

  -- a point that is found is a choice
  pub found_chosen : (best : Option Spot) → IsSome best → IsSpotOf Will list best → IsChosen Will list best
  found_chosen (Some s) some h = h
  found_chosen None some h = absurd (let e : false ≡ true = some in cc)

  -- the point of a mask of the list that will do
  pub found_at : (i : ℕ) (m : Shown) → i < length list → m ≡ get_or list i m → (spot : Option Spot) → IsSpotWhere (Will m.mask) m.spot spot → IsSpotOf Will list spot
  found_at i m within is (Some s) h = (i, m, within, sym is, (h.0, h.1))
  found_at i m within is None h = tt

pub spot_where : (Will : Type 0) (spot : Option Spot) → Will → IsSpotWhere Will spot spot
spot_where Will (Some s) will = (will, refl)
spot_where Will None will = λ w. refl
