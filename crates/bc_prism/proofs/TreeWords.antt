-- The tokens of trees where layers stand: they are those of one tree at most, they never begin as a layer's line does, and the
-- lines of a tree have them.
use Rattle.std.proofs.Common.{◌≡◌, ◌<◌, ℕ, ℤ, List, [], ◌∷◌, ◌++◌, codes, drop, sym, ap, ◌∙◌, append_assoc, arith, Some, lit<, refl, subst, inl, inr}
use Rattle.bc_num.specs.Tokens.{tokens_of}
use Rattle.bc_tree.specs.declared.tree.Leaf.TheVariants.{Slab, Strip, Disc, Block, Tile}
use Rattle.bc_tree.specs.Shape.{Shape, leaf, union, meet, cut, none, child}
use Rattle.bc_tree.specs.Spells.{IsAllowed, Spells}
use Rattle.bc_tree.specs.declared.tree.Leaf.{Leaf}
use Rattle.bc_tree.specs.Words.{block_words, IsLeafWords, IsWords, words}
use Rattle.bc_tree.proofs.OneTree.{Same, one}
use Rattle.bc_tree.proofs.ShortWords.{short_once}
use Rattle.bc_text.specs.Layout.{node_text}
use Rattle.bc_text.proofs.Pieces.{whole}
use Rattle.bc_text.proofs.Texts.{a_node}
use Rattle.bc_prism.specs.Layers.{height_words, AreTreeWords}

-- ---- parts of a token sequence

abbrev pub first : List (List ℕ) → List ℕ
first [] = []
first (t ∷ ts) = t

abbrev pub byte_of : List ℕ → ℕ
byte_of [] = 0
byte_of (b ∷ bs) = b

-- the token behind n others, and the byte that it begins with
abbrev pub nth : ℕ → List (List ℕ) → List ℕ
nth n ts = first (drop n ts)

abbrev pub begins : ℕ → List (List ℕ) → ℕ
begins n ts = byte_of (nth n ts)

pub differ : {A : Type 0} (m n : ℕ) → m < n → m ≡ n → A
differ m n h e = absurd (omega arith)

pub given : (xs ys : List (List ℕ)) → Some xs ≡ Some ys → xs ≡ ys
given xs ys e = cc

pub regroup : (a b r : List (List ℕ)) → (a ++ b) ++ r ≡ a ++ (b ++ r)
regroup a b r = append_assoc a b r

-- ---- the tree's

its_words : (s : Shape) (ws : List (List ℕ)) → AreTreeWords s ws → IsWords s ws
its_words s ws h = subst (IsWords s) (given h.2.words ws (sym h.2.tokens ∙ h.1)) h.2.spelled

-- those of an allowed tree as it is written
pub tree_words : (s : Shape) → IsAllowed s → AreTreeWords s (words s)
tree_words s h = (
  node_text [] 0 0 s,
  whole (a_node [] 0 0 s),
  record { words = words s; tokens = whole (a_node [] 0 0 s); spelled = (short_once s).2; allowed = h },
)

-- what begins with the tokens of two trees begins with one tree, and goes on in one way
pub one_front : (s t : Shape) (ws vs r r' : List (List ℕ)) → AreTreeWords s ws → AreTreeWords t vs → ws ++ r ≡ vs ++ r' → Same s t r r'
one_front s t ws vs r r' h k e = one s t ws vs r r' h.2.allowed.ranges k.2.allowed.ranges (its_words s ws h) (its_words t vs k) e

-- ---- no tree begins as a layer's line

-- a leaf is a matrix, or goes on with its shape behind its place
no_leaf : (l : Leaf) (z0 z1 : ℤ) (ws more rest : List (List ℕ)) → IsLeafWords l ws → height_words z0 z1 ++ more ≡ (ws ++ codes ";" ∷ []) ++ rest → ⊥
no_leaf (Slab f) z0 z1 ws more rest (inl is) e = differ 109 116 (lit< tt) (sym (ap (begins 0) (e ∙ ap (λ x. (x ++ codes ";" ∷ []) ++ rest) is)))
no_leaf (Slab f) z0 z1 ws more rest (inr h) e = differ 99 108 (lit< tt) (sym (ap (begins 10) (e ∙ ap (λ x. (x ++ codes ";" ∷ []) ++ rest) h.1)))
no_leaf (Strip f) z0 z1 ws more rest (inl is) e = differ 109 116 (lit< tt) (sym (ap (begins 0) (e ∙ ap (λ x. (x ++ codes ";" ∷ []) ++ rest) is)))
no_leaf (Strip f) z0 z1 ws more rest (inr h) e = differ 108 115 (lit< tt) (ap (begins 10) (e ∙ ap (λ x. (x ++ codes ";" ∷ []) ++ rest) h.1))
no_leaf (Disc d) z0 z1 ws more rest (inl is) e = differ 99 108 (lit< tt) (sym (ap (begins 10) (e ∙ ap (λ x. (x ++ codes ";" ∷ []) ++ rest) is)))
no_leaf (Disc d) z0 z1 ws more rest (inr h) e = h.0
no_leaf (Block b) z0 z1 ws more rest (inl is) e = differ 99 108 (lit< tt) (sym (ap (begins 10) (e ∙ ap (λ x. (x ++ codes ";" ∷ []) ++ rest) is)))
no_leaf (Block b) z0 z1 ws more rest (inr h) e = h.0
no_leaf (Tile b) z0 z1 ws more rest (inl is) e = differ 108 115 (lit< tt) (ap (begins 10) (e ∙ ap (λ x. (x ++ codes ";" ∷ []) ++ rest) is))
no_leaf (Tile b) z0 z1 ws more rest (inr h) e = h.0

no_node : (t : Shape) (z0 z1 : ℤ) (ws more rest : List (List ℕ)) → IsWords t ws → height_words z0 z1 ++ more ≡ ws ++ rest → ⊥
no_node (leaf l) z0 z1 ws more rest (a, of, is) e = no_leaf l z0 z1 a more rest of (e ∙ ap (λ x. x ++ rest) is)
no_node (union kids) z0 z1 ws more rest (a, of, is) e = differ 116 117 (lit< tt) (ap (begins 0) (e ∙ ap (λ x. x ++ rest) is))
no_node (meet kids) z0 z1 ws more rest (a, of, is) e = differ 105 116 (lit< tt) (sym (ap (begins 0) (e ∙ ap (λ x. x ++ rest) is)))
no_node (cut t kids) z0 z1 ws more rest (a, b, of, others, is) e = differ 100 116 (lit< tt) (sym (ap (begins 0) (e ∙ ap (λ x. x ++ rest) is)))

-- no leaf is a union
no_union : (l : Leaf) (ws more rest : List (List ℕ)) → IsLeafWords l ws → codes "union" ∷ more ≡ (ws ++ codes ";" ∷ []) ++ rest → ⊥
no_union (Slab f) ws more rest (inl is) e = differ 109 117 (lit< tt) (sym (ap (begins 0) (e ∙ ap (λ x. (x ++ codes ";" ∷ []) ++ rest) is)))
no_union (Slab f) ws more rest (inr h) e = differ 116 117 (lit< tt) (sym (ap (begins 0) (e ∙ ap (λ x. (x ++ codes ";" ∷ []) ++ rest) h.1)))
no_union (Strip f) ws more rest (inl is) e = differ 109 117 (lit< tt) (sym (ap (begins 0) (e ∙ ap (λ x. (x ++ codes ";" ∷ []) ++ rest) is)))
no_union (Strip f) ws more rest (inr h) e = differ 116 117 (lit< tt) (sym (ap (begins 0) (e ∙ ap (λ x. (x ++ codes ";" ∷ []) ++ rest) h.1)))
no_union (Disc d) ws more rest (inl is) e = differ 116 117 (lit< tt) (sym (ap (begins 0) (e ∙ ap (λ x. (x ++ codes ";" ∷ []) ++ rest) is)))
no_union (Disc d) ws more rest (inr h) e = h.0
no_union (Block b) ws more rest (inl is) e = differ 116 117 (lit< tt) (sym (ap (begins 0) (e ∙ ap (λ x. (x ++ codes ";" ∷ []) ++ rest) is)))
no_union (Block b) ws more rest (inr h) e = h.0
no_union (Tile b) ws more rest (inl is) e = differ 116 117 (lit< tt) (sym (ap (begins 0) (e ∙ ap (λ x. (x ++ codes ";" ∷ []) ++ rest) is)))
no_union (Tile b) ws more rest (inr h) e = h.0

no_words : (s : Shape) (z0 z1 : ℤ) (ws more rest : List (List ℕ)) → IsWords s ws → codes "union" ∷ codes "(" ∷ codes ")" ∷ codes "{" ∷ (height_words z0 z1 ++ more) ≡ ws ++ rest → ⊥
no_words (leaf l) z0 z1 ws more rest (a, of, is) e = no_union l a (codes "(" ∷ codes ")" ∷ codes "{" ∷ (height_words z0 z1 ++ more)) rest of (e ∙ ap (λ x. x ++ rest) is)
no_words (union none) z0 z1 ws more rest (a, of, is) e = differ 116 125 (lit< tt) (ap (begins 4) (e ∙ ap (λ x. x ++ rest) (is ∙ ap (block_words (codes "union")) of)))
no_words (union (child t ts)) z0 z1 ws more rest (a, (b, c, of, others, split), is) e =
    no_node t z0 z1 b more (c ++ (codes "}" ∷ rest)) of
    (ap (drop 4) (e ∙ ap (λ x. x ++ rest) (is ∙ ap (block_words (codes "union")) split)) ∙ regroup (b ++ c) (codes "}" ∷ []) rest ∙ regroup b c (codes "}" ∷ rest))
no_words (meet kids) z0 z1 ws more rest (a, of, is) e = differ 105 117 (lit< tt) (sym (ap (begins 0) (e ∙ ap (λ x. x ++ rest) is)))
no_words (cut t kids) z0 z1 ws more rest (a, b, of, others, is) e = differ 100 117 (lit< tt) (sym (ap (begins 0) (e ∙ ap (λ x. x ++ rest) is)))

pub no_tree_begins : (s : Shape) (z0 z1 : ℤ) (ws more rest : List (List ℕ)) → AreTreeWords s ws → codes "union" ∷ codes "(" ∷ codes ")" ∷ codes "{" ∷ (height_words z0 z1 ++ more) ≡ ws ++ rest → ⊥
no_tree_begins s z0 z1 ws more rest h e = no_words s z0 z1 ws more rest (its_words s ws h) e

-- ---- the empty union

pub empty_spelled : (text : List ℕ) → tokens_of text ≡ Some (block_words (codes "union") []) → Spells text (union none)
empty_spelled text e = record {
  words = block_words (codes "union") [];
  tokens = e;
  spelled = ([], refl, refl);
  allowed = record { ranges = tt; nested = omega arith; meets = tt; kind = inl tt };
}

pub empty_tokens : (text : List ℕ) → Spells text (union none) → tokens_of text ≡ Some (block_words (codes "union") [])
empty_tokens text h = h.tokens ∙ ap Some (h.spelled.2 ∙ ap (block_words (codes "union")) h.spelled.1)
