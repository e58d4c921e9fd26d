-- The token sequence in which every axis leaf is short, and the two sequences of an axis leaf.
use Rattle.std.proofs.Common.{◌≡◌, inl, inr, ℕ, List, [], ◌∷◌, ◌++◌, codes, Bool, true, false, refl, sym, ap, ◌∙◌, if◌then◌else◌, lit<}
use Rattle.bc_tree.specs.declared.tree.Leaf.{Leaf}
use Rattle.bc_tree.specs.declared.tree.Leaf.TheVariants.{Slab, Strip, Disc, Block, Tile}
use Rattle.bc_tree.specs.Shape.{Shape, leaf, union, meet, cut, Shapes, none, child}
use Rattle.bc_tree.specs.Axis.{IsAxis, is_axis}
use Rattle.bc_tree.specs.Words.{long_words, short_words, IsLeafWords, IsShortLeafWords, WordsBy, AllWordsBy, IsWords, IsShortWords, leaf_words, words, words_all, block_words}
use Rattle.bc_tree.specs.Spells.{AxisLeafHasTwo, OtherLeafHasOne, ShortOnce}
use Rattle.bc_tree.proofs.AxisTests.{axis_test}
use Rattle.bc_tree.proofs.OneTree.{begins, differ}

-- ---- leaves

no_axis : (l : Leaf) → is_axis l ≡ false → IsAxis l → ⊥
no_axis l e a = let t : is_axis l ≡ true = (axis_test l).1 a in let never : true ≡ false = sym t ∙ e in cc never

abbrev Chosen : Leaf → Bool → List (List ℕ)
Chosen l c = if c then short_words l else long_words l

short_by : (l : Leaf) (c : Bool) → is_axis l ≡ c → IsShortLeafWords l (Chosen l c)
short_by l true e = inl ((axis_test l).0 e, refl)
short_by l false e = inr (no_axis l e, refl)

pub short_leaf : (l : Leaf) → IsShortLeafWords l (leaf_words l)
short_leaf l = short_by l (is_axis l) refl

only_by : (l : Leaf) (ws : List (List ℕ)) (c : Bool) → is_axis l ≡ c → IsShortLeafWords l ws → ws ≡ Chosen l c
only_by l ws true e (inl a) = a.1
only_by l ws false e (inl a) = absurd (no_axis l e a.0)
only_by l ws true e (inr b) = absurd (b.0 ((axis_test l).0 e))
only_by l ws false e (inr b) = b.1

only_leaf : (l : Leaf) (ws : List (List ℕ)) → IsShortLeafWords l ws → ws ≡ leaf_words l
only_leaf l ws h = only_by l ws (is_axis l) refl h

short_is : (l : Leaf) (ws : List (List ℕ)) → IsShortLeafWords l ws → IsLeafWords l ws
short_is l ws (inl a) = inr a
short_is l ws (inr b) = inl b.1

-- ---- trees

mutual
  short_tree : (s : Shape) → IsShortWords s (words s)
  short_tree (leaf l) = (leaf_words l, short_leaf l, refl)
  short_tree (union ss) = (words_all ss, short_trees ss, refl)
  short_tree (meet ss) = (words_all ss, short_trees ss, refl)
  short_tree (cut s ss) = (words s, words_all ss, short_tree s, short_trees ss, refl)

  short_trees : (ss : Shapes) → AllWordsBy IsShortLeafWords ss (words_all ss)
  short_trees none = refl
  short_trees (child s ss) = (words s, words_all ss, short_tree s, short_trees ss, refl)

mutual
  only_tree : (s : Shape) (ws : List (List ℕ)) → IsShortWords s ws → ws ≡ words s
  only_tree (leaf l) ws h = h.2 ∙ ap (λ a. a ++ codes ";" ∷ []) (only_leaf l h.0 h.1)
  only_tree (union ss) ws h = h.2 ∙ ap (λ a. block_words (codes "union") a) (only_trees ss h.0 h.1)
  only_tree (meet ss) ws h = h.2 ∙ ap (λ a. block_words (codes "intersection") a) (only_trees ss h.0 h.1)
  only_tree (cut s ss) ws h = h.4 ∙ (λ i. block_words (codes "difference") (only_tree s h.0 h.2 i ++ only_trees ss h.1 h.3 i))

  only_trees : (ss : Shapes) (ws : List (List ℕ)) → AllWordsBy IsShortLeafWords ss ws → ws ≡ words_all ss
  only_trees none ws h = h
  only_trees (child s ss) ws h = h.4 ∙ (λ i. only_tree s h.0 h.2 i ++ only_trees ss h.1 h.3 i)

mutual
  words_map : {P Q : Leaf → List (List ℕ) → Type 0} → ((l : Leaf) (ws : List (List ℕ)) → P l ws → Q l ws) → (s : Shape) (ws : List (List ℕ)) → WordsBy P s ws → WordsBy Q s ws
  words_map f (leaf l) ws h = (h.0, f l h.0 h.1, h.2)
  words_map f (union ss) ws h = (h.0, words_map_all f ss h.0 h.1, h.2)
  words_map f (meet ss) ws h = (h.0, words_map_all f ss h.0 h.1, h.2)
  words_map f (cut s ss) ws h = (h.0, h.1, words_map f s h.0 h.2, words_map_all f ss h.1 h.3, h.4)

  words_map_all : {P Q : Leaf → List (List ℕ) → Type 0} → ((l : Leaf) (ws : List (List ℕ)) → P l ws → Q l ws) → (ss : Shapes) (ws : List (List ℕ)) → AllWordsBy P ss ws → AllWordsBy Q ss ws
  words_map_all f none ws h = h
  words_map_all f (child s ss) ws h = (h.0, h.1, words_map f s h.0 h.2, words_map_all f ss h.1 h.3, h.4)

pub words_are : (s : Shape) → IsWords s (words s)
words_are s = words_map short_is s (words s) (short_tree s)

-- ---- laws

pub short_once : ShortOnce
short_once s = (short_tree s, only_tree s, words_are s)

forms_differ : (l : Leaf) → IsAxis l → long_words l ≡ short_words l → ⊥
forms_differ (Slab f) a e = differ 109 116 (lit< tt) (ap begins e)
forms_differ (Strip f) a e = differ 109 116 (lit< tt) (ap begins e)
forms_differ (Disc d) a e = absurd a
forms_differ (Block b) a e = absurd a
forms_differ (Tile b) a e = absurd a

pub axis_leaf_has_two : AxisLeafHasTwo
axis_leaf_has_two l a = (inl refl, inr (a, refl), forms_differ l a)

pub other_leaf_has_one : OtherLeafHasOne
other_leaf_has_one l n ws (inl e) = e
other_leaf_has_one l n ws (inr a) = absurd (n a.0)
