-- Tests that show a mesh closed: each face lies on the plane of its first three corners, and each of the edges occurs an even
-- number of times.
use Rattle.std.proofs.Common.{◌≡◌, ◌≢◌, ◌<◌, ◌+◌, ◌%◌, ◌⊎◌, inl, inr, ℕ, zero, suc, Bool, true, false, not, cond, ◌&&◌, List, [], ◌∷◌, length, arith, refl, ap, ◌∙◌}
use Rattle.std.specs.Prelude.{unsigned_abs, filter, nat_eq}
use Rattle.std.specs.List.{All, list_all}
use Rattle.std.specs.Ordering.{int_eq}
use Rattle.std.proofs.lemmas.Bool.{and_parts, and_from, cases_Bool, not-true}
use Rattle.std.proofs.lemmas.Bool.Decides.{nat_tests, Decides-int_eq}
use Rattle.std.proofs.lemmas.List.Elements.{All-head, All-tail, All-weaker}
use Rattle.std.proofs.lemmas.List.Sums.{AllPass-from_list_all}
use lib.IntN.{ℤ, pos, negsuc, ◌+ℤ◌, ◌*ℤ◌}
use Rattle.bc_num.specs.declared.v3.V3.{V3}
use Rattle.bc_num.specs.Directions3.{IsZero3}
use Rattle.bc_space.specs.declared.plane3.Plane3.{Plane3}
use Rattle.bc_space.specs.PlanesThrough.{normal_to, AreCollinear}
use Rattle.bc_solid.specs.Meshes.{Edge3, edges, all_edges, is_same3, joins, occurrences}
use Rattle.bc_solid.specs.Facets.{IsOnPlane, AreOnLine, AreOnPlane, IsSoundFace, IsClosedMesh}
use Rattle.bc_solid.proofs.Joins.{same_yes, occurrences-same}

-- ---- faces

abbrev is_zero : V3 → Bool
is_zero n = int_eq n.x (pos 0) && (int_eq n.y (pos 0) && int_eq n.z (pos 0))

abbrev along : V3 → V3 → ℤ
along n v = n.x *ℤ v.x +ℤ n.y *ℤ v.y +ℤ n.z *ℤ v.z

-- all corners are on the plane through a with normal n
abbrev are_on : V3 → V3 → List V3 → Bool
are_on n a cs = list_all (λ v. int_eq (along n a) (along n v)) cs

-- no two neighbouring corners are the same
abbrev are_apart : List V3 → Bool
are_apart cs = list_all (λ e. not (is_same3 e.from e.to)) (edges cs)

abbrev spreads : V3 → V3 → List V3 → Bool
spreads n a cs = not (is_zero n) && (are_on n a cs && are_apart cs)

abbrev pub is_sound : List V3 → Bool
is_sound (a ∷ b ∷ c ∷ cs) = spreads (normal_to a b c) a (a ∷ b ∷ c ∷ cs)
is_sound _ = false

zero_is : (n : V3) → IsZero3 n → is_zero n ≡ true
zero_is n z =
    and_from (int_eq n.x (pos 0)) (int_eq n.y (pos 0) && int_eq n.z (pos 0)) ((Decides-int_eq n.x (pos 0)).1 z.along_x)
    (and_from (int_eq n.y (pos 0)) (int_eq n.z (pos 0)) ((Decides-int_eq n.y (pos 0)).1 z.along_y) ((Decides-int_eq n.z (pos 0)).1 z.along_z))

some_size : (x y z : ℤ) → (int_eq x (pos 0) && (int_eq y (pos 0) && int_eq z (pos 0))) ≡ false → 0 < unsigned_abs x + unsigned_abs y + unsigned_abs z
some_size (pos zero) (pos zero) (pos zero) h = cc
some_size (pos zero) (pos zero) (pos (suc k)) h = omega arith
some_size (pos zero) (pos zero) (negsuc k) h = omega arith
some_size (pos zero) (pos (suc k)) z h = omega arith
some_size (pos zero) (negsuc k) z h = omega arith
some_size (pos (suc k)) y z h = omega arith
some_size (negsuc k) y z h = omega arith

apart : (cs : List V3) → are_apart cs ≡ true → All (λ e. e.from ≢ e.to) (edges cs)
apart cs h =
    All-weaker (λ e. not (is_same3 e.from e.to) ≡ true) (λ e. e.from ≢ e.to)
    (λ e t q. differ (is_same3 e.from e.to) t (same_yes e.from e.to q)) (edges cs)
    (AllPass-from_list_all (λ e. not (is_same3 e.from e.to)) (edges cs) h)
  where
    differ : (b : Bool) → not b ≡ true → b ≡ true → ⊥
    differ true t e = cc
    differ false t e = cc

flat : (n a : V3) (cs : List V3) → is_zero n ≡ false → are_on n a cs ≡ true → AreOnPlane cs
flat n a cs some h =
    let plane : Plane3 = record { a = n.x; b = n.y; c = n.z; d = along n a; normal = some_size n.x n.y n.z some } in (
      plane,
      All-weaker (λ v. int_eq (along n a) (along n v) ≡ true) (IsOnPlane plane) (λ v t. (Decides-int_eq (along n a) (along n v)).0 t) cs
          (AllPass-from_list_all (λ v. int_eq (along n a) (along n v)) cs h),
    )

-- the first three corners of a face on one line are so
narrow : (a b c : V3) (cs : List V3) → AreOnLine (a ∷ b ∷ c ∷ cs) → AreCollinear a b c
narrow a b c cs l =
    let face = a ∷ b ∷ c ∷ cs in
    let of_a = All-head (λ p. All (λ q. All (AreCollinear p q) face) face) a (b ∷ c ∷ cs) l in
    let of_b = All-head (λ q. All (AreCollinear a q) face) b (c ∷ cs) (All-tail (λ q. All (AreCollinear a q) face) a (b ∷ c ∷ cs) of_a) in
    All-head (AreCollinear a b) c cs (All-tail (AreCollinear a b) b (c ∷ cs) (All-tail (AreCollinear a b) a (b ∷ c ∷ cs) of_b))

pub sound : (cs : List V3) → is_sound cs ≡ true → IsSoundFace cs
sound [] h = cc
sound (a ∷ []) h = cc
sound (a ∷ b ∷ []) h = cc
sound (a ∷ b ∷ c ∷ cs) h =
    let n = normal_to a b c in
    let face = a ∷ b ∷ c ∷ cs in
    let p = and_parts (not (is_zero n)) (are_on n a face && are_apart face) h in
    let q = and_parts (are_on n a face) (are_apart face) p.1 in
    let some = not-true (is_zero n) p.0 in
    record {
      apart = apart face q.1;
      wide = λ l. clash (is_zero n) (zero_is n (narrow a b c cs l)) some;
      flat = flat n a face some q.0;
    }
  where
    clash : (b : Bool) → b ≡ true → b ≡ false → ⊥
    clash b e f = cc

-- ---- edges

abbrev are_even : List Edge3 → Bool
are_even es = list_all (λ e. nat_eq (occurrences e es % 2) 0) es

-- an edge joins none of those of xs, or occurs an even number of times
found : (k : Edge3) (es xs : List Edge3) → All (λ e. occurrences e es % 2 ≡ 0) xs → (occurrences k xs ≡ 0) ⊎ (occurrences k es % 2 ≡ 0)
found k es [] a = inl refl
found k es (x ∷ xs) a =
    elim (cases_Bool (joins k x)) [
      | inl j ↦ inr (ap (λ n. n % 2) (occurrences-same k x es j) ∙ All-head (λ e. occurrences e es % 2 ≡ 0) x xs a)
      | inr f ↦
          elim (found k es xs (All-tail (λ e. occurrences e es % 2 ≡ 0) x xs a)) [
            | inl z ↦ inl (ap (λ b. length (cond b (x ∷ filter (joins k) xs) (filter (joins k) xs))) f ∙ z)
            | inr h ↦ inr h
          ]
    ]

even : (es : List Edge3) → are_even es ≡ true → (k : Edge3) → occurrences k es % 2 ≡ 0
even es h k =
    elim (found k es es (All-weaker (λ e. nat_eq (occurrences e es % 2) 0 ≡ true) (λ e. occurrences e es % 2 ≡ 0) (λ e t. is_nil (occurrences e es % 2) t) es
    (AllPass-from_list_all (λ e. nat_eq (occurrences e es % 2) 0) es h))) [
      | inl z ↦ ap (λ n. n % 2) z
      | inr e ↦ e
    ]
  where
    is_nil : (n : ℕ) → nat_eq n 0 ≡ true → n ≡ 0
    is_nil n t = grind (arith, nat_tests)

-- ---- meshes

abbrev pub is_closed : List (List V3) → Bool
is_closed faces = list_all is_sound faces && are_even (all_edges faces)

pub closed : (faces : List (List V3)) → is_closed faces ≡ true → IsClosedMesh faces
closed faces h =
    let p = and_parts (list_all is_sound faces) (are_even (all_edges faces)) h in
    record {
      sound = All-weaker (λ cs. is_sound cs ≡ true) IsSoundFace sound faces (AllPass-from_list_all is_sound faces p.0);
      even = even (all_edges faces) p.1;
    }
