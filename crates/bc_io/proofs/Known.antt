-- Steps over bytes that an object tells, or doesn't.
use Rattle.std.proofs.Common.{Result, Ok, Err, IsErr, subst, ◌⊎◌, inl, inr, ◌≡◌, ◌≤◌, ◌-◌, ◌+◌, ◌<◌, min, ℕ, length, take, drop, take-append-drop, arith, List, [], ◌++◌, Option, None, Some, append_assoc, append-nil, sym, ap, ◌∙◌}
use Rattle.std.proofs.lemmas.Grind.{common_steps}
use Rattle.std.specs.Io.KnownBytes.{Appends}
use Rattle.bc_io.specs.Causes.{HasCause, Rose}
use Rattle.bc_io.specs.Pieces.{AppendsFront, Puts}

pub Appends-nil : (a : Option (List ℕ)) → Appends a a []
Appends-nil None = tt
Appends-nil (Some x) = sym (append-nil x)

pub Appends-trans : (a b c : Option (List ℕ)) (xs ys : List ℕ) → Appends a b xs → Appends b c ys → Appends a c (xs ++ ys)
Appends-trans None b c xs ys p q = tt
Appends-trans (Some x) None c xs ys p q = absurd p
Appends-trans (Some x) (Some y) None xs ys p q = absurd q
Appends-trans (Some x) (Some y) (Some z) xs ys p q = q ∙ ap (λ l. l ++ ys) p ∙ append_assoc x xs ys

-- the front of the rest is taken too
pub taken : (piece front rest : List ℕ) (n : ℕ) → n ≤ length rest → piece ≡ front ++ rest → piece ≡ (front ++ take n rest) ++ take (length rest - n) (drop n rest)
taken piece front rest n h e =
    let whole : take (length rest - n) (drop n rest) ≡ drop n rest = grind (arith, common_steps) in
    rw whole (e ∙ ap (λ l. front ++ l) (sym (take-append-drop n rest)) ∙ sym (append_assoc front (take n rest) (drop n rest)))

-- what was copied from the bytes at a place, before those that are left behind it
pub gave : (bytes part rest : List ℕ) (at n : ℕ) → n ≤ length bytes - at → part ≡ take (at + n - at) (drop at bytes)
    → drop at bytes ≡ take n (part ++ rest) ++ drop (at + n) bytes
gave bytes part rest at n h e =
    let is_part : part ≡ take n (drop at bytes) = e ∙ ap (λ k. take k (drop at bytes)) (omega arith) in
    let len : length part ≡ n = grind (arith, common_steps) in
    let front : take n (part ++ rest) ≡ part = grind (arith, common_steps) in
    let back : drop (at + n) bytes ≡ drop n (drop at bytes) = grind (arith, common_steps) in
    rw (front, back) (sym (take-append-drop n (drop at bytes)) ∙ ap (λ l. l ++ drop n (drop at bytes)) (sym is_part))

-- a read of no bytes, with room for some and some allowed, is at the end
pub at_end : (bytes : List ℕ) (at n room most : ℕ) → n ≡ min (min room most) (length bytes - at) → 0 < most → 0 < room → n ≡ 0 → drop (at + n) bytes ≡ []
at_end bytes at n room most e some h zero =
    let past : length bytes ≤ at + n = omega arith in
    grind (arith, common_steps)

-- ---- texts put one after another

pub AppendsFront-more : (a b : Option (List ℕ)) (xs ys : List ℕ) → AppendsFront a b xs → AppendsFront a b (xs ++ ys)
AppendsFront-more a b xs ys p = (p.0, p.1 ++ ys, ap (λ l. l ++ ys) p.2 ∙ append_assoc p.0 p.1 ys, p.3)

pub AppendsFront-behind : (a b c : Option (List ℕ)) (xs ys : List ℕ) → Appends a b xs → AppendsFront b c ys → AppendsFront a c (xs ++ ys)
AppendsFront-behind a b c xs ys p q = (xs ++ q.0, q.1, ap (λ l. xs ++ l) q.2 ∙ sym (append_assoc xs q.0 q.1), Appends-trans a b c xs q.0 p q.3)

-- a text was put whole, or a front of it and the faults rose
pub either_way : {T E : Type 0} (a b : Option (List ℕ)) (text : List ℕ) (r : Result T E) (before now : ℕ) → Puts a b r text → HasCause before now r
    → Appends a b text ⊎ (AppendsFront a b text × Rose before now)
either_way a b text (Ok x) before now p q = inl p
either_way a b text (Err e) before now p q = inr (p, q.failed)

-- ---- where a later piece fails

-- the second of three
pub stopped_behind : {T E : Type 0} (a b c : Option (List ℕ)) (r : Result T E) (xs ys zs : List ℕ) → IsErr r → Appends a b xs → AppendsFront b c ys → Puts a c r (xs ++ (ys ++ zs))
stopped_behind a b c (Ok x) xs ys zs h p q = cc
stopped_behind a b c (Err e) xs ys zs h p q = AppendsFront-behind a b c xs (ys ++ zs) p (AppendsFront-more b c ys zs q)

-- one of many
pub stopped_among : {T E : Type 0} (a b c : Option (List ℕ)) (r : Result T E) (all done one rest more : List ℕ) → all ≡ done ++ rest → rest ≡ one ++ more
    → IsErr r → Appends a b done → AppendsFront b c one → Puts a c r all
stopped_among a b c r all done one rest more e f h p q =
    subst (Puts a c r) (sym (e ∙ ap (λ (l : List ℕ). done ++ l) f)) (stopped_behind a b c r done one more h p q)
