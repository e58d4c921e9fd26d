-- A walk round a face, corner by corner.
use Rattle.std.proofs.Common.{◌≡◌, ℕ, ◌+◌, ◌≤◌, Bool, false, List, [], ◌∷◌, length, drop, slice_get, Some, sym, ◌∙◌, ap}
use Rattle.std.proofs.lemmas.Option.{none-some, same_Some}
use Rattle.bc_num.specs.declared.v3.V3.{V3}
use Rattle.bc_solid.specs.Meshes.{Edge3, path, edges}
use Rattle.bc_parity.specs.Parity.{xor}
use Rattle.bc_parity.specs.Sums.{odd}
use Rattle.bc_parity.proofs.Xors.{xor_assoc, xor_false}
use Rattle.bc_parity.proofs.Loops.{none, next}

abbrev pub from_to : V3 → V3 → Edge3
from_to a b = record { from = a; to = b }

-- what is left to count, from the corner b on
abbrev pub left : (Edge3 → Bool) → V3 → List V3 → V3 → Bool
left f b cs z = odd f (path b cs z)

pub start : (f : Edge3 → Bool) (cs : List V3) (a : V3) → slice_get cs 0 ≡ Some a → xor false (left f a (drop 1 cs) a) ≡ odd f (edges cs)
start f [] a e = absurd (none-some a e)
start f (b ∷ cs) a e = ap (λ u. left f u cs u) (sym (same_Some b a e))

pub step : (f : Edge3 → Bool) (cs : List V3) (i : ℕ) (b y z : V3) (o t n r : Bool) → slice_get cs i ≡ Some y → t ≡ f (from_to b y) → n ≡ xor o t
    → xor o (left f b (drop i cs) z) ≡ r → xor n (left f y (drop (i + 1) cs) z) ≡ r
step f cs i b y z o t n r e g h k =
    ap (λ x. xor x (left f y (drop (i + 1) cs) z)) (h ∙ ap (xor o) g)
    ∙ xor_assoc o (f (from_to b y)) (left f y (drop (i + 1) cs) z)
    ∙ ap (λ us. xor o (left f b us z)) (sym (next cs i y e))
    ∙ k

pub finish : (f : Edge3 → Bool) (cs : List V3) (i : ℕ) (b z : V3) (o t n r : Bool) → length cs ≤ i → t ≡ f (from_to b z) → n ≡ xor o t
    → xor o (left f b (drop i cs) z) ≡ r → n ≡ r
finish f cs i b z o t n r l g h k =
    h ∙ ap (xor o) (g ∙ sym (xor_false (f (from_to b z)))) ∙ ap (λ us. xor o (left f b us z)) (sym (none cs i l)) ∙ k
