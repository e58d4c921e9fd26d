-- A token sequence is that of one list of layers at most, and that of no tree where a layer stands in it.
use Rattle.std.proofs.Common.{◌≡◌, ◌<◌, ◌≤◌, ◌^◌, ℕ, ℤ, pos, negsuc, List, [], ◌∷◌, ◌++◌, codes, drop, refl, sym, ap, ◌∙◌, append-nil, arith, Some, lit<, All}
use lib.IntN.{nat_abs}
use lib.Signed.{mag}
use Rattle.std.specs.Prelude.{◌-ℤ◌}
use Rattle.std.specs.Fmt.{signed_decimal}
use Rattle.std.proofs.lemmas.Fmt.{signed_decimal_injective}
use Rattle.std.proofs.lemmas.Int.{ints}
use Rattle.std.proofs.lemmas.List.Elements.{All-nil, All-head, All-tail}
use Rattle.bc_algebra.specs.Within.{IsWithin}
use Rattle.bc_tree.specs.Words.{block_words}
use Rattle.bc_tree.proofs.OneTree.{Same}
use Rattle.bc_prism.specs.Layers.{ALayer, height_words, AreLayerWords, IsLawfulLayer}
use Rattle.bc_prism.specs.Laws.{SpellsOneList, LayersAreNoTree, NoTreeBeginsSo, NoLayersAreEmpty}
use Rattle.bc_prism.proofs.TreeWords.{nth, begins, differ, given, regroup, one_front, no_tree_begins, empty_spelled, empty_tokens}

-- ---- heights

mag_le : (z : ℤ) → mag z ≤ nat_abs z
mag_le (pos n) = omega arith
mag_le (negsuc n) = omega arith

from_digits : (n : ℕ) (y z : ℤ) → n < 2 ^ 63 → IsWithin n y → IsWithin n z → signed_decimal y ≡ signed_decimal z → y ≡ z
from_digits n y z small h k e = signed_decimal_injective y z (omega (arith, h.within, mag_le y)) (omega (arith, k.within, mag_le z)) e

height_within : (z0 z1 : ℤ) → IsWithin 1023 z0 → IsWithin 1023 z1 → IsWithin 2046 (z1 -ℤ z0)
height_within z0 z1 h k = record { within = omega (arith, ints, h.within, k.within) }

top : (a b c d : ℤ) → a ≡ c → b -ℤ a ≡ d -ℤ c → b ≡ d
top a b c d e f = omega (arith, ints)

-- ---- one list

-- what follows the layers in both sequences
ended : (ws vs us xs : List (List ℕ)) (r r' : List (List ℕ)) → ws ≡ us → vs ≡ xs → ws ++ (codes "}" ∷ r) ≡ vs ++ (codes "}" ∷ r') → us ++ (codes "}" ∷ r) ≡ xs ++ (codes "}" ∷ r')
ended ws vs us xs r r' p q e = ap (λ x. x ++ (codes "}" ∷ r)) (sym p) ∙ e ∙ ap (λ x. x ++ (codes "}" ∷ r')) q

-- a layer and those behind it
one_more : (k l : ALayer) (tree tree' rest rest' r r' : List (List ℕ)) → IsLawfulLayer k → IsLawfulLayer l
    → (height_words k.z0 k.z1 ++ (tree ++ rest)) ++ (codes "}" ∷ r) ≡ (height_words l.z0 l.z1 ++ (tree' ++ rest')) ++ (codes "}" ∷ r')
    → (k.z0 ≡ l.z0) × (k.z1 ≡ l.z1) × (tree ++ (rest ++ (codes "}" ∷ r)) ≡ tree' ++ (rest' ++ (codes "}" ∷ r')))
one_more k l tree tree' rest rest' r r' f g e =
    let low : k.z0 ≡ l.z0 = from_digits 1023 k.z0 l.z0 (lit< tt) f.low g.low (ap (nth 7) e) in
    let height : k.z1 -ℤ k.z0 ≡ l.z1 -ℤ l.z0 =
    from_digits 2046 (k.z1 -ℤ k.z0) (l.z1 -ℤ l.z0) (lit< tt) (height_within k.z0 k.z1 f.low f.high) (height_within l.z0 l.z1 g.low g.high) (ap (nth 14) e) in
    let behind : (tree ++ rest) ++ (codes "}" ∷ r) ≡ (tree' ++ rest') ++ (codes "}" ∷ r') = ap (drop 16) e in
    (low, top k.z0 k.z1 l.z0 l.z1 low height, sym (regroup tree rest (codes "}" ∷ r)) ∙ behind ∙ regroup tree' rest' (codes "}" ∷ r'))

one_list : (ks ls : List ALayer) (ws vs r r' : List (List ℕ)) → All IsLawfulLayer ks → All IsLawfulLayer ls → AreLayerWords ks ws → AreLayerWords ls vs
    → ws ++ (codes "}" ∷ r) ≡ vs ++ (codes "}" ∷ r') → ks ≡ ls
one_list [] [] ws vs r r' f g h k e = refl
one_list [] (l ∷ ls) ws vs r r' f g h (tree, rest, t, s, is) e =
    differ 116 125 (lit< tt) (sym (ap (begins 0) (ended ws vs [] (height_words l.z0 l.z1 ++ (tree ++ rest)) r r' h is e)))
one_list (k ∷ ks) [] ws vs r r' f g (tree, rest, t, s, is) h e =
    differ 116 125 (lit< tt) (ap (begins 0) (ended ws vs (height_words k.z0 k.z1 ++ (tree ++ rest)) [] r r' is h e))
one_list (k ∷ ks) (l ∷ ls) ws vs r r' f g (tree, rest, t, s, is) (tree', rest', t', s', is') e =
    let same = one_more k l tree tree' rest rest' r r' (All-head IsLawfulLayer k ks f) (All-head IsLawfulLayer l ls g)
    (ended ws vs (height_words k.z0 k.z1 ++ (tree ++ rest)) (height_words l.z0 l.z1 ++ (tree' ++ rest')) r r' is is' e) in
    let front : Same k.tree l.tree (rest ++ (codes "}" ∷ r)) (rest' ++ (codes "}" ∷ r')) = one_front k.tree l.tree tree tree' (rest ++ (codes "}" ∷ r)) (rest' ++ (codes "}" ∷ r')) t t' same.2 in
    let others : ks ≡ ls = one_list ks ls rest rest' r r' (All-tail IsLawfulLayer k ks f) (All-tail IsLawfulLayer l ls g) s s' front.rest in
    let layer : k ≡ l = λ i. record { z0 = same.0 i; z1 = same.1 i; tree = front.shape i } in
    ap (λ (x : ALayer). x ∷ ks) layer ∙ ap (λ (xs : List ALayer). l ∷ xs) others

pub spells_one_list : SpellsOneList
spells_one_list text ks ls h k =
    one_list ks ls h.inside k.inside [] [] h.lawful k.lawful h.spelled k.spelled
    (ap (drop 4) (given (block_words (codes "union") h.inside) (block_words (codes "union") k.inside) (sym h.tokens ∙ k.tokens)))

-- ---- no tree

pub no_tree_begins_so : NoTreeBeginsSo
no_tree_begins_so s z0 z1 ws more rest h e = no_tree_begins s z0 z1 ws more rest h e

-- with the tokens inside the union
opened : (l : ALayer) (inside tree rest : List (List ℕ)) → inside ≡ height_words l.z0 l.z1 ++ (tree ++ rest)
    → block_words (codes "union") inside ≡ codes "union" ∷ codes "(" ∷ codes ")" ∷ codes "{" ∷ (height_words l.z0 l.z1 ++ ((tree ++ rest) ++ codes "}" ∷ []))
opened l inside tree rest is = ap (block_words (codes "union")) is

pub layers_are_no_tree : LayersAreNoTree
layers_are_no_tree text l ls s h k =
    let parts = h.spelled in
    no_tree_begins s l.z0 l.z1 (block_words (codes "union") h.inside) ((parts.0 ++ parts.1) ++ codes "}" ∷ []) [] (text, h.tokens, k)
    (sym (opened l h.inside parts.0 parts.1 parts.4) ∙ sym (append-nil (block_words (codes "union") h.inside)))

pub no_layers_are_empty : NoLayersAreEmpty
no_layers_are_empty text = (
  λ h. empty_spelled text (h.tokens ∙ ap (λ ws. Some (block_words (codes "union") ws)) h.spelled),
  λ h. record { inside = []; tokens = empty_tokens text h; spelled = refl; lawful = All-nil IsLawfulLayer },
)
