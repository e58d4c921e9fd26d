-- Which product alone holds a mask, while one after the other is looked at.
use Rattle.std.proofs.Common.{◌≡◌, ◌≢◌, ◌↔◌, ℕ, ◌<◌, ◌+◌, List, [], ◌∷◌, ◌++◌, length, get_or, Option, None, Some, inl, inr, refl, sym, ap, ◌∙◌, subst, arith, ⊎_elim}
use Rattle.std.specs.Prelude.{◌⊎◌, slice_get, is_some, true, false, IfSome}
use Rattle.std.proofs.lemmas.Bool.{cases_eq}
use Rattle.std.proofs.lemmas.List.{length-map, get_or_append_left, get_or_default}
use Rattle.std.proofs.Math.Seq.{get_or-append_seam}
use Rattle.std.proofs.lemmas.Option.{same_Some, slice_get_within, slice_get-get_or}
use Rattle.bc_cover.specs.declared.term.Term.{Term}
use Rattle.bc_tree.specs.Cuts.{product_of}
use Rattle.bc_tree.specs.declared.product.Product.{Product}
use Rattle.bc_text.specs.declared.note.Spot.{Spot}
use Rattle.bc_notes.specs.declared.shown.Shown.{Shown}
use Rattle.bc_notes.specs.Products.{products_of, HoldsMask}
use Rattle.bc_notes.specs.Chosen.{IsAlone}
use Rattle.bc_notes.specs.Bests.{IsStep, IsOwner, IsOwnerShown, AreOwners}
use Rattle.bc_notes.proofs.Stepping.{step_as}

abbrev pub no_product : Product
no_product = record { pos = 0; neg = 0 }

-- at most one product is alone
pub alone_once : (products : List Product) (mask i j : ℕ) → j < length products → IsAlone products i mask → IsAlone products j mask → j ≡ i
alone_once products mask i j within one other =
    let p = get_or products j no_product in
    let at : slice_get products j ≡ Some p = slice_get-get_or products j no_product within in
    (one j p at).0 ((other j p at).1 refl)

module _ (products : List Product) (mask : ℕ) where
  -- none of the first n products holds the mask, or one of them alone
  abbrev pub AreHolders : ℕ → Option ℕ → Type 0
  AreHolders n None = (j : ℕ) (p : Product) → j < n → slice_get products j ≡ Some p → ¬ (HoldsMask p mask)
  AreHolders n (Some k) = (k < n) × ((j : ℕ) (p : Product) → j < n → slice_get products j ≡ Some p → (HoldsMask p mask ↔ (j ≡ k)))

  module _ (i : ℕ) (p : Product) (at : slice_get products i ≡ Some p) where
    -- what is at a place below i + 1
    last : (j : ℕ) (q : Product) → j < i + 1 → slice_get products j ≡ Some q → (j < i) ⊎ ((j ≡ i) × (q ≡ p))
    last j q l e =
        ⊎_elim
        (λ is. inr (is, same_Some q p (sym e ∙ (ap (slice_get products) is ∙ at))))
        (λ ne. inl (let k : j < i = omega (arith, l, ne) in k))
        (cases_eq j i)

    -- the next product does not hold the mask
    pub holders_kept : (owner : Option ℕ) → ¬ (HoldsMask p mask) → AreHolders i owner → AreHolders (i + 1) owner
    holders_kept None out h = λ j q l e. ⊎_elim (λ less. h j q less e) (λ w. subst (λ (q : Product). ¬ (HoldsMask q mask)) (sym w.1) out) (last j q l e)
    holders_kept (Some k) out h = (
      let less : k < i = h.0 in omega (arith, less),
      λ j q l e. ⊎_elim (λ less. h.1 j q less e) (λ w. (λ holds. absurd (out (subst (λ (q : Product). HoldsMask q mask) w.1 holds)), λ is. absurd (apart j w.0 is h.0))) (last j q l e),
    )
      where
        apart : (j : ℕ) → j ≡ i → j ≡ k → k < i → ⊥
        apart j a b l = omega arith

    -- it is the first that does
    pub holders_first : (owner : Option ℕ) → is_some owner ≡ false → HoldsMask p mask → AreHolders i owner → AreHolders (i + 1) (Some i)
    holders_first (Some k) none holds h = absurd (cc)
    holders_first None none holds h = (
      omega arith,
      λ j q l e. ⊎_elim (λ less. (λ other. absurd (h j q less e other), λ is. absurd (apart j less is))) (λ w. (λ other. w.0, λ is. subst (λ (q : Product). HoldsMask q mask) (sym w.1) holds)) (last j q l e),
    )
      where
        apart : (j : ℕ) → j < i → j ≡ i → ⊥
        apart j a b = omega arith

    -- it is the second
    pub no_owner : (owner : Option ℕ) → is_some owner ≡ true → HoldsMask p mask → AreHolders i owner → IsOwner products mask None
    no_owner None some holds h = absurd (cc)
    no_owner (Some k) some holds h = λ j within alone.
        let less : k < i = h.0 in
        let inside = slice_get_within products i p at in
        let q = get_or products k no_product in
        let found : slice_get products k ≡ Some q = slice_get-get_or products k no_product (omega (arith, less, inside)) in
        let here : i ≡ j = (alone i p at).0 holds in
        let there : k ≡ j = (alone k q found).0 ((h.1 k q less found).1 refl) in
        apart j here there less
      where
        apart : (j : ℕ) → i ≡ j → k ≡ j → k < i → ⊥
        apart j a b l = omega arith

  pub holders_end : (n : ℕ) (owner : Option ℕ) → n ≡ length products → AreHolders n owner → IsOwner products mask owner
  holders_end n None is h = λ i within alone.
      let p = get_or products i no_product in
      let at : slice_get products i ≡ Some p = slice_get-get_or products i no_product within in
      h i p (omega (arith, within, is)) at ((alone i p at).1 refl)
  holders_end n (Some k) is h = (
    let less : k < n = h.0 in omega (arith, less, is),
    λ j p at. let l = slice_get_within products j p at in h.1 j p (omega (arith, l, is)) at,
  )

-- ---- the owners of masks

pub owner_as_shown : (products : List Product) (m : Shown) (owner : Option ℕ) → IsOwner products m.mask owner → IsOwnerShown products m owner
owner_as_shown products m (Some i) h = h
owner_as_shown products m None h = λ i within alone. absurd (h i within alone)

pub owners_push : (products : List Product) (inside : List Shown) (owners : List (Option ℕ)) (n : ℕ) (o : Option ℕ) (m : Shown) → n < length inside → m ≡ get_or inside n m → length owners ≡ n → IsOwnerShown products m o
    → ((k : ℕ) (x : Shown) (y : Option ℕ) → k < n → IsOwnerShown products (get_or inside k x) (get_or owners k y))
    → (k : ℕ) (x : Shown) (y : Option ℕ) → k < n + 1 → IsOwnerShown products (get_or inside k x) (get_or (owners ++ o ∷ []) k y)
owners_push products inside owners n o m within is len new h = λ k x y l. ⊎_elim (λ e. here k x y e) (λ ne. there k x y l ne) (cases_eq k n)
  where
    here : (k : ℕ) (x : Shown) (y : Option ℕ) → k ≡ n → IsOwnerShown products (get_or inside k x) (get_or (owners ++ o ∷ []) k y)
    here k x y e =
        let at : get_or (owners ++ o ∷ []) k y ≡ o = ap (λ j. get_or (owners ++ o ∷ []) j y) (e ∙ sym len) ∙ get_or-append_seam owners o [] y in
        let of : get_or inside k x ≡ m = ap (λ j. get_or inside j x) e ∙ (get_or_default inside n x m within ∙ sym is) in
        subst (λ (s : Shown). IsOwnerShown products s (get_or (owners ++ o ∷ []) k y)) (sym of) (subst (IsOwnerShown products m) (sym at) new)

    there : (k : ℕ) (x : Shown) (y : Option ℕ) → k < n + 1 → k ≢ n → IsOwnerShown products (get_or inside k x) (get_or (owners ++ o ∷ []) k y)
    there k x y l ne =
        let less : k < n = omega (arith, l, ne) in
        subst (IsOwnerShown products (get_or inside k x)) (sym (get_or_append_left owners (o ∷ []) y k (omega (arith, less, len)))) (h k x y less)

module _ (products : List Product) (inside : List Shown) (owners : List (Option ℕ)) (owns : AreOwners products inside owners) (k : ℕ) (m : Shown) (within : k < length inside) (is : m ≡ get_or inside k m) where
  pub owner_at : (o : Option ℕ) → o ≡ get_or owners k o → IsOwnerShown products m o
  owner_at o of = subst (IsOwnerShown products m) (sym of) (subst (λ (s : Shown). IsOwnerShown products s (get_or owners k o)) (sym is) (owns.each k m o within))

  -- the product that owns the mask is alone
  pub owner_alone : (i j : ℕ) → get_or owners k None ≡ Some j → j ≡ i → IsAlone products i m.mask
  owner_alone i j some same =
      let h : IsOwnerShown products m (get_or owners k None) = subst (λ (s : Shown). IsOwnerShown products s (get_or owners k None)) (sym is) (owns.each k m None within) in
      let s : IsOwnerShown products m (Some i) = subst (IsOwnerShown products m) (some ∙ ap Some same) h in
      s.1

pub owner_within : (products : List Product) (m : Shown) (o : Option ℕ) (n : ℕ) → length products ≡ n → IsOwnerShown products m o → IfSome o (λ i. i < n)
owner_within products m None n len h = tt
owner_within products m (Some i) n len h = let l : i < length products = h.0 in omega (arith, l, len)

pub products_len : (terms : List Term) → length (products_of terms) ≡ length terms
products_len terms = length-map terms product_of

-- a point that is looked at for the owner is looked at for the product that is alone
pub step_owned : (products : List Product) (m : Shown) (owner : Option ℕ) (i : ℕ) (old new : Option Spot) → i < length products → IsOwnerShown products m owner → IsStep (owner ≡ Some i) m.spot old new → IsStep (IsAlone products i m.mask) m.spot old new
step_owned products m owner i old new within of step = step_as m.spot (owner ≡ Some i) (IsAlone products i m.mask) old new (λ e. to e (subst (IsOwnerShown products m) e of)) (λ alone. from owner of alone) step
  where
    to : owner ≡ Some i → IsOwnerShown products m (Some i) → IsAlone products i m.mask
    to e h = h.1

    from : (o : Option ℕ) → IsOwnerShown products m o → IsAlone products i m.mask → (o ≡ Some i) ⊎ (m.spot ≡ None)
    from None h alone = inr (h i within alone)
    from (Some k) h alone = inl (ap Some (sym (alone_once products m.mask k i within h.1 alone)))
