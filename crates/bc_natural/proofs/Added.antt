-- A map from keys: whether it has one, and its `insert` of one that it lacks.
use Rattle.std.proofs.Common.{◌≡◌, Bool, true, false, ◌||◌, Option, Some, None, List, [], ◌∷◌, ◌++◌, if◌then◌else◌, is_some, refl, sym, ap, ◌∙◌}
use Rattle.std.proofs.lemmas.Map.Made.{is_some-lookup}
use Rattle.std.specs.List.{list_any}
use Rattle.std.specs.Map.{keys_of}
use Rattle.indexmap.specs.IndexMap.{IndexMap, get, insert_entry}
use Rattle.indexmap.proofs.CallerLemmas.{insert_entry-new}
use Rattle.bc_natural.specs.Noted.{with_new}

is_none : {X : Type 0} (o : Option X) → is_some o ≡ false → o ≡ None
is_none None h = refl
is_none (Some x) h = cc

module _ {K V : Type 0} (same : K → K → Bool) where
  by_keys : (k : K) (es : List (K × V)) → list_any (λ h. same k h.0) es ≡ list_any (same k) (keys_of es)
  by_keys k [] = refl
  by_keys k (e ∷ es) = ap (λ b. same k e.0 || b) (by_keys k es)

  pub has : {S : Type 0} (m : IndexMap K V S) (k : K) → is_some (get same m k) ≡ list_any (λ h. same k h.0) m.entries
  has m k = is_some-lookup (same k) m.entries ∙ sym (by_keys k m.entries)

  pub kept : (es : List (K × V)) (k : K) (v : V) → list_any (λ h. same k h.0) es ≡ true → es ≡ with_new (λ g h. same g.0 h.0) es (k, v)
  kept es k v h = sym (ap (λ b. if b then es else es ++ (k, v) ∷ []) h)

  pub added : {S : Type 0} (m : IndexMap K V S) (es : List (K × V)) (k : K) (v : V) → m.entries ≡ es → list_any (λ h. same k h.0) es ≡ false
      → insert_entry same m.entries k v ≡ with_new (λ g h. same g.0 h.0) es (k, v)
  added m es k v e h =
      insert_entry-new same m k v (is_none _ (has m k ∙ ap (list_any (λ g. same k g.0)) e ∙ h)) ∙ ap (λ gs. gs ++ (k, v) ∷ []) e
      ∙ sym (ap (λ b. if b then es else es ++ (k, v) ∷ []) h)
