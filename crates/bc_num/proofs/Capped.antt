-- A value that is cut on the way is cut to the same in the end.
use Rattle.std.proofs.Common.{◌≡◌, ◌⊎◌, ℕ, ◌+◌, ◌*◌, ◌-◌, ◌≤◌, min, List, [], ◌∷◌, arith, inl, inr, ap}
use Rattle.bc_num.specs.Numbers.{value}

value-most : (c n : ℕ) (ds : List ℕ) → c ≤ n → c ≤ value n ds
value-most c n [] h = h
value-most c n (d ∷ ds) h = let h2 : c ≤ 10 * n + (d - 48) = omega arith in value-most c (10 * n + (d - 48)) ds h2

pub value-capped : (c a b : ℕ) (ds : List ℕ) → a ≡ min c b → min c (value a ds) ≡ min c (value b ds)
value-capped c a b ds e =
    let split : (b ≤ c) ⊎ (c ≤ b) = grind arith in
    elim split [
      | inl h ↦ let e2 : a ≡ b = omega arith in ap (λ n. min c (value n ds)) e2
      | inr h ↦ let ha : c ≤ a = omega arith in
          let ma : c ≤ value a ds = value-most c a ds ha in
          let mb : c ≤ value b ds = value-most c b ds h in omega arith
    ]
