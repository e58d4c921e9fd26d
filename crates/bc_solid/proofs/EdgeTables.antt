-- A table that counts edges: it stays one as edges are added, and it tells which edges occur an odd number of times.
use Rattle.std.proofs.Common.{◌≡◌, ℕ, zero, suc, ◌+◌, ◌≤◌, ◌%◌, ◌⊎◌, inl, inr, Bool, true, false, cond, ◌||◌, if◌then◌else◌, List, [], ◌∷◌, ◌++◌, length, take, arith, refl, sym, ap, ◌∙◌, subst, append_assoc, length-append}
use Rattle.std.specs.Prelude.{All, slice_get, Some, filter, unwrap_or}
use Rattle.std.specs.List.{list_any}
use Rattle.std.specs.Map.{keys_of, lookup}
use Rattle.std.proofs.lemmas.Bool.{and_parts, and_from, both_ways, cases_Bool}
use Rattle.std.proofs.lemmas.Int.{ints}
use Rattle.std.proofs.lemmas.List.{take-append-le, take_all}
use Rattle.std.proofs.lemmas.List.Elements.{All-head, All-tail, All-push, All-weaker, All-take, All-same, filter-append}
use Rattle.std.proofs.lemmas.Option.{slice_get_within, same_Some}
use Rattle.indexmap.specs.IndexMap.{insert_entry}
use Rattle.bc_num.specs.declared.v3.V3.{V3}
use Rattle.bc_solid.specs.declared.edge.Edge.{Edge}
use Rattle.bc_solid.specs.Meshes.{Edge3, is_same3, joins, occurrences}
use Rattle.bc_solid.specs.MeshFaults.{IsLess3, IsFirstOddEdge}
use Rattle.bc_solid.specs.EdgeTables.{edge_of, is_same_edge, IsSorted, count_of, with_key, CountsOnce, is_known, IsFirstSeen, IsEdgeTable, IsFirstOdd}
use Rattle.bc_solid.proofs.Lists.{all_at}
use Rattle.bc_solid.proofs.Joins.{same_yes, same_true, joins-cases, joins-same, occurrences-same}

-- ---- keys

abbrev edge_from : V3 → V3 → Edge
edge_from a b = record { from = a; to = b }

same_edge : (k q : Edge) → is_same_edge k q ≡ true → k ≡ q
same_edge k q h =
    let p = and_parts (is_same3 k.from q.from) (is_same3 k.to q.to) h in
    ap (λ (a : V3). edge_from a k.to) (same_true k.from q.from p.0) ∙ ap (λ (b : V3). edge_from q.from b) (same_true k.to q.to p.1)

edge_same : (k q : Edge) → edge_of k ≡ edge_of q → is_same_edge k q ≡ true
edge_same k q e =
    and_from (is_same3 k.from q.from) (is_same3 k.to q.to) (same_yes k.from q.from (ap (λ (x : Edge3). x.from) e)) (same_yes k.to q.to (ap (λ (x : Edge3). x.to) e))

less_turned : (a b : V3) → IsLess3 a b → IsLess3 b a → ⊥
less_turned a b (inl p) (inl q) = omega (arith, ints)
less_turned a b (inl p) (inr q) = let e = q.0 in omega (arith, ints)
less_turned a b (inr p) (inl q) = let e = p.0 in omega (arith, ints)
less_turned a b (inr (e, inl p)) (inr (f, inl q)) = omega (arith, ints)
less_turned a b (inr (e, inl p)) (inr (f, inr q)) = let g = q.0 in omega (arith, ints)
less_turned a b (inr (e, inr p)) (inr (f, inl q)) = let g = p.0 in omega (arith, ints)
less_turned a b (inr (e, inr p)) (inr (f, inr q)) = let g = p.1 in let h = q.1 in omega (arith, ints)

-- two keys with the same ends, each with the lesser first, are the same
key_same : (k q : Edge) → IsSorted k → IsSorted q → joins (edge_of q) (edge_of k) ≡ true → is_same_edge k q ≡ true
key_same k q sk sq h =
    elim (joins-cases (edge_of q) (edge_of k) h) [
      | inl e ↦ edge_same k q e
      | inr e ↦
          absurd (less_turned k.from k.to sk
          (subst (λ (b : V3). IsLess3 k.to b) (sym (ap (λ (x : Edge3). x.from) e)) (subst (λ (a : V3). IsLess3 a q.to) (sym (ap (λ (x : Edge3). x.to) e)) sq)))
    ]

key_joins : (k q : Edge) (e : Edge3) → IsSorted k → IsSorted q → joins (edge_of k) e ≡ true → is_same_edge k q ≡ joins (edge_of q) e
key_joins k q e sk sq h =
    elim (cases_Bool (is_same_edge k q)) [
      | inl t ↦ t ∙ sym (subst (λ (x : Edge). joins (edge_of x) e ≡ true) (same_edge k q t) h)
      | inr f ↦
          elim (cases_Bool (joins (edge_of q) e)) [
            | inl j ↦ absurd (both_ways (is_same_edge k q) f (key_same k q sk sq (joins-same (edge_of q) (edge_of k) e h ∙ j)))
            | inr g ↦ f ∙ sym g
          ]
    ]

-- ---- the map's `insert`

-- an entry keeps its place, and a new one goes last
pub keys-inserted : (es : List (Edge × ℕ)) (k : Edge) (n : ℕ) → keys_of (insert_entry is_same_edge es k n) ≡ with_key (keys_of es) k
keys-inserted [] k n = refl
keys-inserted (e ∷ es) k n =
    elim (cases_Bool (is_same_edge k e.0)) [
      | inl t ↦
          ap (λ b. keys_of (if b then (e.0, n) ∷ es else e ∷ insert_entry is_same_edge es k n)) t
          ∙ sym (ap (λ b. if b || list_any (is_same_edge k) (keys_of es) then e.0 ∷ keys_of es else e.0 ∷ keys_of es ++ k ∷ []) t)
      | inr f ↦
          ap (λ b. keys_of (if b then (e.0, n) ∷ es else e ∷ insert_entry is_same_edge es k n)) f
          ∙ ap (λ (ks : List Edge). e.0 ∷ ks) (keys-inserted es k n)
          ∙ behind e.0 (keys_of es) (list_any (is_same_edge k) (keys_of es))
          ∙ sym (ap (λ b. if b || list_any (is_same_edge k) (keys_of es) then e.0 ∷ keys_of es else e.0 ∷ keys_of es ++ k ∷ []) f)
    ]
  where
    behind : (x : Edge) (ks : List Edge) (b : Bool) → x ∷ (if b then ks else ks ++ k ∷ []) ≡ (if b then x ∷ ks else x ∷ ks ++ k ∷ [])
    behind x ks true = refl
    behind x ks false = refl

pub counts-inserted : (k q : Edge) (old new : List (Edge × ℕ)) (n : ℕ) → n ≡ count_of k old → lookup (is_same_edge q) new ≡ cond (is_same_edge k q) (Some (n + 1)) (lookup (is_same_edge q) old)
    → count_of q new ≡ count_of q old + (if is_same_edge k q then 1 else 0)
counts-inserted k q old new n e h =
    elim (cases_Bool (is_same_edge k q)) [
      | inl t ↦
          ap (λ o. unwrap_or o 0) h ∙ ap (λ b. unwrap_or (cond b (Some (n + 1)) (lookup (is_same_edge q) old)) 0) t
          ∙ ap (λ m. m + 1) (e ∙ ap (λ (x : Edge). count_of x old) (same_edge k q t)) ∙ sym (ap (λ b. count_of q old + (if b then 1 else 0)) t)
      | inr f ↦
          ap (λ o. unwrap_or o 0) h ∙ ap (λ b. unwrap_or (cond b (Some (n + 1)) (lookup (is_same_edge q) old)) 0) f
          ∙ nothing (count_of q old) ∙ sym (ap (λ b. count_of q old + (if b then 1 else 0)) f)
    ]
  where
    nothing : (m : ℕ) → m ≡ m + 0
    nothing m = omega arith

-- ---- with one more key

stays : (ks : List Edge) (k : Edge) → list_any (is_same_edge k) ks ≡ true → with_key ks k ≡ ks
stays ks k h = ap (λ b. if b then ks else ks ++ k ∷ []) h

grows : (ks : List Edge) (k : Edge) → list_any (is_same_edge k) ks ≡ false → with_key ks k ≡ ks ++ k ∷ []
grows ks k h = ap (λ b. if b then ks else ks ++ k ∷ []) h

all_with : (P : Edge → Type 0) (ks : List Edge) (k : Edge) → All P ks → P k → All P (with_key ks k)
all_with P ks k a p =
    elim (cases_Bool (list_any (is_same_edge k) ks)) [
      | inl t ↦ All-same P (with_key ks k) ks (stays ks k t) a
      | inr f ↦ All-same P (with_key ks k) (ks ++ k ∷ []) (grows ks k f) (All-push P ks k a p)
    ]

known_left : (ks : List Edge) (k : Edge) (e : Edge3) → is_known ks e ≡ true → is_known (ks ++ k ∷ []) e ≡ true
known_left [] k e h = cc
known_left (x ∷ xs) k e h =
    elim (cases_Bool (joins (edge_of x) e)) [
      | inl t ↦ ap (λ b. b || is_known (xs ++ k ∷ []) e) t
      | inr f ↦ ap (λ b. b || is_known (xs ++ k ∷ []) e) f ∙ known_left xs k e (sym (ap (λ b. b || is_known xs e) f) ∙ h)
    ]

known_last : (ks : List Edge) (k : Edge) (e : Edge3) → joins (edge_of k) e ≡ true → is_known (ks ++ k ∷ []) e ≡ true
known_last [] k e h = ap (λ b. b || false) h
known_last (x ∷ xs) k e h =
    elim (cases_Bool (joins (edge_of x) e)) [
      | inl t ↦ ap (λ b. b || is_known (xs ++ k ∷ []) e) t
      | inr f ↦ ap (λ b. b || is_known (xs ++ k ∷ []) e) f ∙ known_last xs k e h
    ]

known_there : (ks : List Edge) (k : Edge) (e : Edge3) → joins (edge_of k) e ≡ true → list_any (is_same_edge k) ks ≡ true → is_known ks e ≡ true
known_there [] k e h l = cc
known_there (x ∷ xs) k e h l =
    elim (cases_Bool (is_same_edge k x)) [
      | inl t ↦ ap (λ b. b || is_known xs e) (subst (λ (y : Edge). joins (edge_of y) e ≡ true) (same_edge k x t) h)
      | inr f ↦
          elim (cases_Bool (joins (edge_of x) e)) [
            | inl j ↦ ap (λ b. b || is_known xs e) j
            | inr g ↦ ap (λ b. b || is_known xs e) g ∙ known_there xs k e h (sym (ap (λ b. b || list_any (is_same_edge k) xs) f) ∙ l)
          ]
    ]

known_with : (ks : List Edge) (k : Edge) (e : Edge3) → is_known ks e ≡ true → is_known (with_key ks k) e ≡ true
known_with ks k e h =
    elim (cases_Bool (list_any (is_same_edge k) ks)) [
      | inl t ↦ ap (λ (xs : List Edge). is_known xs e) (stays ks k t) ∙ h
      | inr f ↦ ap (λ (xs : List Edge). is_known xs e) (grows ks k f) ∙ known_left ks k e h
    ]

known_own : (ks : List Edge) (k : Edge) (e : Edge3) → joins (edge_of k) e ≡ true → is_known (with_key ks k) e ≡ true
known_own ks k e h =
    elim (cases_Bool (list_any (is_same_edge k) ks)) [
      | inl t ↦ ap (λ (xs : List Edge). is_known xs e) (stays ks k t) ∙ known_there ks k e h t
      | inr f ↦ ap (λ (xs : List Edge). is_known xs e) (grows ks k f) ∙ known_last ks k e h
    ]

-- ---- with one more edge

occurrences-push : (k : Edge3) (es : List Edge3) (e : Edge3) → occurrences k (es ++ e ∷ []) ≡ occurrences k es + (if joins k e then 1 else 0)
occurrences-push k es e =
    ap length (filter-append (joins k) es (e ∷ [])) ∙ length-append (filter (joins k) es) (cond (joins k e) (e ∷ []) [])
    ∙ ap (λ n. occurrences k es + n) (one (joins k e))
  where
    one : (b : Bool) → length (cond b (e ∷ []) []) ≡ (if b then 1 else 0)
    one true = refl
    one false = refl

-- an element of a list with one more at its end
pushed : {X : Type 0} (xs : List X) (x : X) (i : ℕ) (y : X) → slice_get (xs ++ x ∷ []) i ≡ Some y → (slice_get xs i ≡ Some y) ⊎ ((i ≡ length xs) × (x ≡ y))
pushed [] x zero y h = inr (refl, same_Some x y h)
pushed [] x (suc i) y h = cc
pushed (z ∷ zs) x zero y h = inl h
pushed (z ∷ zs) x (suc i) y h =
    elim (pushed zs x i y h) [
      | inl k ↦ inl k
      | inr k ↦ inr (ap suc k.0, k.1)
    ]

first_longer : (es : List Edge3) (ks ls : List Edge) (k : Edge) (e : Edge3) → ls ≡ ks → IsFirstSeen es ks k → IsFirstSeen (es ++ e ∷ []) ls k
first_longer es ks ls k e s f = record {
  before = f.before;
  edge = f.edge;
  behind = f.behind ++ e ∷ [];
  whole = sym (append_assoc f.before (f.edge ∷ f.behind) (e ∷ [])) ∙ ap (λ (xs : List Edge3). xs ++ e ∷ []) f.whole;
  ends = f.ends;
  known = All-weaker (λ x. is_known ks x ≡ true) (λ x. is_known ls x ≡ true) (λ x h. ap (λ (xs : List Edge). is_known xs x) s ∙ h) f.before f.known;
}

first_new : (es : List Edge3) (ks ls : List Edge) (k : Edge) (e : Edge3) → ls ≡ ks → All (λ x. is_known ks x ≡ true) es → joins (edge_of k) e ≡ true → IsFirstSeen (es ++ e ∷ []) ls k
first_new es ks ls k e s a h = record {
  before = es;
  edge = e;
  behind = [];
  whole = refl;
  ends = h;
  known = All-weaker (λ x. is_known ks x ≡ true) (λ x. is_known ls x ≡ true) (λ x g. ap (λ (xs : List Edge). is_known xs x) s ∙ g) es a;
}

module _ (es : List Edge3) (e : Edge3) (k : Edge) (ks : List Edge) (known : All (λ x. is_known ks x ≡ true) es) (h : joins (edge_of k) e ≡ true)
    (first : (i : ℕ) (q : Edge) → slice_get ks i ≡ Some q → IsFirstSeen es (take i ks) q) where
  first_with : (i : ℕ) (q : Edge) → slice_get (with_key ks k) i ≡ Some q → IsFirstSeen (es ++ e ∷ []) (take i (with_key ks k)) q
  first_with i q g =
      elim (cases_Bool (list_any (is_same_edge k) ks)) [
        | inl t ↦
            first_longer es (take i ks) (take i (with_key ks k)) q e (ap (take i) (stays ks k t))
            (first i q (sym (ap (λ (xs : List Edge). slice_get xs i) (stays ks k t)) ∙ g))
        | inr f ↦
            elim (pushed ks k i q (sym (ap (λ (xs : List Edge). slice_get xs i) (grows ks k f)) ∙ g)) [
              | inl p ↦
                  let w = slice_get_within ks i q p in
                  first_longer es (take i ks) (take i (with_key ks k)) q e (ap (take i) (grows ks k f) ∙ take-append-le i ks (k ∷ []) (omega (arith, w))) (first i q p)
              | inr p ↦
                  first_new es ks (take i (with_key ks k)) q e
                  (ap (take i) (grows ks k f) ∙ take-append-le i ks (k ∷ []) (omega (arith, p.0)) ∙ take_all i ks (omega (arith, p.0)))
                  known (subst (λ (x : Edge). joins (edge_of x) e ≡ true) p.1 h)
            ]
      ]

pub table_more : (es : List Edge3) (e : Edge3) (k : Edge) (old new : List (Edge × ℕ)) → IsEdgeTable es old → IsSorted k → joins (edge_of k) e ≡ true → CountsOnce k old new
    → IsEdgeTable (es ++ e ∷ []) new
table_more es e k old new t s h c = record {
  counts = λ q sq.
      c.counts q ∙ ap (λ n. n + (if is_same_edge k q then 1 else 0)) (t.counts q sq)
      ∙ ap (λ b. occurrences (edge_of q) es + (if b then 1 else 0)) (key_joins k q e s sq h)
      ∙ sym (occurrences-push (edge_of q) es e);
  sorted = All-same IsSorted (keys_of new) (with_key (keys_of old) k) c.keys (all_with IsSorted (keys_of old) k t.sorted s);
  known =
      All-weaker (λ x. is_known (with_key (keys_of old) k) x ≡ true) (λ x. is_known (keys_of new) x ≡ true) (λ x g. ap (λ (ks : List Edge). is_known ks x) c.keys ∙ g) (es ++ e ∷ [])
      (All-push (λ x. is_known (with_key (keys_of old) k) x ≡ true) es e
      (All-weaker (λ x. is_known (keys_of old) x ≡ true) (λ x. is_known (with_key (keys_of old) k) x ≡ true) (λ x g. known_with (keys_of old) k x g) es t.known)
      (known_own (keys_of old) k e h));
  first =
      subst (λ (ks : List Edge). (i : ℕ) (q : Edge) → slice_get ks i ≡ Some q → IsFirstSeen (es ++ e ∷ []) (take i ks) q) (sym c.keys)
      (first_with es e k (keys_of old) t.known h t.first);
}

-- a key occurs at most as often as there are edges
filter_fewer : (p : Edge3 → Bool) (es : List Edge3) → length (filter p es) ≤ length es
filter_fewer p [] = omega arith
filter_fewer p (e ∷ es) = by (p e) (filter_fewer p es)
  where
    by : (b : Bool) → length (filter p es) ≤ length es → length (cond b (e ∷ filter p es) (filter p es)) ≤ suc (length es)
    by true h = omega arith
    by false h = omega arith

pub count_small : (es : List Edge3) (k : Edge) (entries : List (Edge × ℕ)) → IsEdgeTable es entries → IsSorted k → count_of k entries ≤ length es
count_small es k entries t s = let e = t.counts k s in omega (arith, e, filter_fewer (joins (edge_of k)) es)

-- ---- odd edges

pub even_count : (m n : ℕ) → m ≡ n → (n % 2 ≡ 1 → ⊥) → m % 2 ≡ 0
even_count m n e f = omega (arith, e, f)

known_key : (ks : List Edge) (e : Edge3) → is_known ks e ≡ true → (k : Edge) × (joins (edge_of k) e ≡ true) × ((P : Edge → Type 0) → All P ks → P k)
known_key [] e h = cc
known_key (x ∷ xs) e h =
    elim (cases_Bool (joins (edge_of x) e)) [
      | inl t ↦ (x, t, λ P a. All-head P x xs a)
      | inr f ↦ let r = known_key xs e (sym (ap (λ b. b || is_known xs e) f) ∙ h) in (r.0, r.1, λ P a. r.2 P (All-tail P x xs a))
    ]

module _ (es : List Edge3) (entries : List (Edge × ℕ)) (t : IsEdgeTable es entries) where
  even_known : (ks : List Edge) (e : Edge3) → All IsSorted ks → All (λ k. count_of k entries % 2 ≡ 0) ks → is_known ks e ≡ true → occurrences e es % 2 ≡ 0
  even_known ks e s a h =
      let r = known_key ks e h in
      ap (λ n. n % 2) (sym (occurrences-same (edge_of r.0) e es r.1) ∙ sym (t.counts r.0 (r.2 IsSorted s))) ∙ r.2 (λ k. count_of k entries % 2 ≡ 0) a

  found : (k : Edge3) (xs : List Edge3) → All (λ e. occurrences e es % 2 ≡ 0) xs → (occurrences k xs ≡ 0) ⊎ (occurrences k es % 2 ≡ 0)
  found k [] a = inl refl
  found k (x ∷ xs) a =
      elim (cases_Bool (joins k x)) [
        | inl j ↦ inr (ap (λ n. n % 2) (occurrences-same k x es j) ∙ All-head (λ e. occurrences e es % 2 ≡ 0) x xs a)
        | inr f ↦
            elim (found k xs (All-tail (λ e. occurrences e es % 2 ≡ 0) x xs a)) [
              | inl z ↦ inl (ap (λ b. length (cond b (x ∷ filter (joins k) xs) (filter (joins k) xs))) f ∙ z)
              | inr h ↦ inr h
            ]
      ]

  -- where all counts are even, each pair of ends occurs an even number of times
  pub all_even : All (λ k. count_of k entries % 2 ≡ 0) (keys_of entries) → (k : Edge3) → occurrences k es % 2 ≡ 0
  all_even a k =
      elim (found k es (All-weaker (λ e. is_known (keys_of entries) e ≡ true) (λ e. occurrences e es % 2 ≡ 0) (λ e h. even_known (keys_of entries) e t.sorted a h) es t.known)) [
        | inl z ↦ ap (λ n. n % 2) z
        | inr h ↦ h
      ]

  -- the first odd key has the ends of the first edge that occurs an odd number of times
  pub first_odd_edge : (r : Edge × ℕ) → IsFirstOdd entries r → IsFirstOddEdge es r.0.from r.0.to r.1
  first_odd_edge r o =
      let f = t.first o.at r.0 o.is in
      let s : IsSorted r.0 = all_at IsSorted (keys_of entries) o.at r.0 t.sorted o.is in
      record {
        before = f.before;
        edge = f.edge;
        behind = f.behind;
        whole = f.whole;
        ends = f.ends;
        less = s;
        count = sym (occurrences-same (edge_of r.0) f.edge es f.ends) ∙ sym (t.counts r.0 s) ∙ o.count;
        odd = o.odd;
        first =
            All-weaker (λ e. is_known (take o.at (keys_of entries)) e ≡ true) (λ e. occurrences e es % 2 ≡ 0)
            (λ e h. even_known (take o.at (keys_of entries)) e (All-take IsSorted o.at (keys_of entries) t.sorted) o.first h) f.before f.known;
      }
