-- The edge lemma: for two points strictly on one side of the line through a and b, whether exactly one of them crosses the
-- segment is told by each of its ends alone.
use Rattle.std.proofs.Common.{◌≡◌, Bool, true, false, ◌&&◌, ◌⊎◌, inl, inr, [], ◌∷◌, arith, refl, sym, ◌∙◌, ap}
use Rattle.std.proofs.lemmas.Int.{ints, by_lt_z}
use Rattle.std.specs.Prelude.{int_lt, int_le}
use lib.IntN.{ℤ, pos, ◌+ℤ◌, ◌-ℤ◌, ◌*ℤ◌}
use lib.Signed.{◌≤ℤ◌, ◌<ℤ◌}
use Rattle.bc_algebra.proofs.Ring.{ring, quotes}
use Rattle.bc_num.specs.declared.v2.V2.{V2}
use Rattle.bc_num.specs.declared.p2.P2.{P2}
use Rattle.bc_num.specs.Measures.{turn}
use Rattle.bc_parity.specs.Parity.{xor}
use Rattle.bc_parity.specs.Crossings.{has_passed, is_above_line, is_crossed}
use Rattle.bc_parity.proofs.Orders.{le_yes, le_no}
use Rattle.bc_parity.proofs.Signs.{same_sign, same_sign-scaled, straddle}
use Rattle.bc_parity.proofs.Xors.{and_when, xor_and, xor_swap}

-- p and q are strictly on one side of the line through a and b
abbrev pub IsOneSide : V2 → V2 → P2 → P2 → Type 0
IsOneSide a b p q = pos 0 <ℤ (turn a b p *ℤ turn a b q)

-- the determinant of p, q and v: above 0 where v is left of the line from p to q, below 0 where it is right of it
abbrev pub spread : P2 → P2 → V2 → ℤ
spread p q v = p.x *ℤ (q.y -ℤ v.y *ℤ q.w) -ℤ p.y *ℤ (q.x -ℤ v.x *ℤ q.w) +ℤ p.w *ℤ (q.x *ℤ v.y -ℤ q.y *ℤ v.x)

-- v is strictly below the line through p and q
abbrev pub is_below : P2 → P2 → V2 → Bool
is_below p q v = int_lt (pos 0) (spread p q v *ℤ (p.x *ℤ q.w -ℤ q.x *ℤ p.w))

-- v stands between the columns of p and q and is strictly below the line through p and q
abbrev pub is_under : P2 → P2 → V2 → Bool
is_under p q v = xor (has_passed v p) (has_passed v q) && is_below p q v

-- the two ways in which exactly one of two tests `≤` is true
pub one_passed : (a b c d : ℤ) → xor (int_le a b) (int_le c d) ≡ true → ((b -ℤ a) <ℤ pos 0) × (pos 0 ≤ℤ (d -ℤ c)) ⊎ (pos 0 ≤ℤ (b -ℤ a)) × ((d -ℤ c) <ℤ pos 0)
one_passed a b c d h =
    by_lt_z b a
    (λ l. by_lt_z d c
    (λ m. absurd (let e = le_no a b l in let f = le_no c d m in let k : false ≡ true = sym (ap (λ x. xor x (int_le c d)) e ∙ f) ∙ h in cc))
    (λ m. inl (omega (arith, ints), omega (arith, ints))))
    (λ l. by_lt_z d c
    (λ m. inr (omega (arith, ints), omega (arith, ints)))
    (λ m. absurd (let e = le_yes a b l in let f = le_yes c d m in let k : false ≡ true = sym (ap (λ x. xor x (int_le c d)) e ∙ ap (xor true) f) ∙ h in cc)))

-- the two ways in which a place stands between the columns
between : (v : V2) (p q : P2) → xor (has_passed v p) (has_passed v q) ≡ true
    → ((p.x -ℤ v.x *ℤ p.w) <ℤ pos 0) × (pos 0 ≤ℤ (q.x -ℤ v.x *ℤ q.w)) ⊎ (pos 0 ≤ℤ (p.x -ℤ v.x *ℤ p.w)) × ((q.x -ℤ v.x *ℤ q.w) <ℤ pos 0)
between v p q h = one_passed (v.x *ℤ p.w) p.x (v.x *ℤ q.w) q.x h

-- the end a, where it stands between the columns, is below pq exactly where p is above ab
pub under_from : (a b : V2) (p q : P2) → IsOneSide a b p q → xor (has_passed a p) (has_passed a q) ≡ true → is_below p q a ≡ is_above_line a b p
under_from a b p q h x =
    let f : ℤ = p.x -ℤ a.x *ℤ p.w in
    let g : ℤ = q.x -ℤ a.x *ℤ q.w in
    let e : p.x *ℤ q.w -ℤ q.x *ℤ p.w ≡ f *ℤ q.w -ℤ g *ℤ p.w =
    ring (p.x ∷ q.x ∷ p.w ∷ q.w ∷ a.x ∷ []) (search quotes depth 30) refl in
    let k : spread p q a *ℤ (b.x -ℤ a.x) ≡ turn a b q *ℤ f -ℤ turn a b p *ℤ g =
    ring (p.x ∷ p.y ∷ p.w ∷ q.x ∷ q.y ∷ q.w ∷ a.x ∷ a.y ∷ b.x ∷ b.y ∷ []) (search quotes depth 30) refl in
    ap (λ z. int_lt (pos 0) (spread p q a *ℤ z)) e
    ∙ same_sign (spread p q a *ℤ (f *ℤ q.w -ℤ g *ℤ p.w)) ((b.x -ℤ a.x) *ℤ turn a b p)
    (straddle (turn a b p) (turn a b q) f g (spread p q a) (b.x -ℤ a.x) p.w q.w h p.positive q.positive (between a p q x) k)

-- and so is the end b
under_to : (a b : V2) (p q : P2) → IsOneSide a b p q → xor (has_passed b p) (has_passed b q) ≡ true → is_below p q b ≡ is_above_line a b p
under_to a b p q h x =
    let is : turn b a p *ℤ turn b a q ≡ turn a b p *ℤ turn a b q =
    ring (p.x ∷ p.y ∷ p.w ∷ q.x ∷ q.y ∷ q.w ∷ a.x ∷ a.y ∷ b.x ∷ b.y ∷ []) (search quotes depth 30) refl in
    let e : (a.x -ℤ b.x) *ℤ turn b a p ≡ (b.x -ℤ a.x) *ℤ turn a b p =
    ring (p.x ∷ p.y ∷ p.w ∷ a.x ∷ a.y ∷ b.x ∷ b.y ∷ []) (search quotes depth 30) refl in
    under_from b a p q (rw is h) x ∙ ap (int_lt (pos 0)) e

-- p and q are above ab or below it together
pub same_above : (a b : V2) (p q : P2) → IsOneSide a b p q → is_above_line a b p ≡ is_above_line a b q
same_above a b p q h = same_sign-scaled (b.x -ℤ a.x) (turn a b p) (turn a b q) h

count : (a b c d t u v w : Bool) → t ≡ u → (xor a c && v) ≡ (xor a c && t) → (xor b d && w) ≡ (xor b d && t)
    → xor (xor a b && t) (xor c d && u) ≡ xor (xor a c && v) (xor b d && w)
count a b c d t u v w e f g =
    ap (λ z. xor (xor a b && t) (xor c d && z)) (sym e)
    ∙ sym (xor_and (xor a b) (xor c d) t)
    ∙ ap (λ z. z && t) (xor_swap a b c d)
    ∙ xor_and (xor a c) (xor b d) t
    ∙ ap (λ z. xor z (xor b d && t)) (sym f)
    ∙ ap (xor (xor a c && v)) (sym g)

pub edge_lemma : (a b : V2) (p q : P2) → IsOneSide a b p q → xor (is_crossed a b p) (is_crossed a b q) ≡ xor (is_under p q a) (is_under p q b)
edge_lemma a b p q h =
    count (has_passed a p) (has_passed b p) (has_passed a q) (has_passed b q) (is_above_line a b p) (is_above_line a b q)
    (is_below p q a) (is_below p q b)
    (same_above a b p q h)
    (and_when (xor (has_passed a p) (has_passed a q)) (is_below p q a) (is_above_line a b p) (under_from a b p q h))
    (and_when (xor (has_passed b p) (has_passed b q)) (is_below p q b) (is_above_line a b p) (under_to a b p q h))
