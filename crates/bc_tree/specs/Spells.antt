-- When a text spells a tree: its tokens are the tree's, and the tree is one that the grammar allows.
use Rattle.std.specs.Prelude.{◌≡◌, ◌≤◌, ◌⊎◌, ℕ, List, Some}
use Rattle.bc_num.specs.Tokens.{tokens_of}
use Rattle.bc_tree.specs.Shape.{Shape, leaf, union, meet, cut, Shapes, none, child, depth, AllLeaves}
use Rattle.bc_tree.specs.Leaves.{IsLeaf, IsFlat, IsSpaceLeaf}
use Rattle.bc_tree.specs.declared.tree.Leaf.{Leaf}
use Rattle.bc_tree.specs.Axis.{IsAxis}
use Rattle.bc_tree.specs.Words.{long_words, short_words, IsLeafWords, IsWords, IsShortWords, words}

abbrev pub HasChild : Shapes → Type 0
HasChild none = ⊥
HasChild (child s ss) = Unit {0}

-- each meet has a child
abbrev mutual
  pub AllMeetsMeet : Shape → Type 0
  AllMeetsMeet (leaf l) = Unit {0}
  AllMeetsMeet (union kids) = EachMeetMeets kids
  AllMeetsMeet (meet kids) = HasChild kids × EachMeetMeets kids
  AllMeetsMeet (cut first kids) = AllMeetsMeet first × EachMeetMeets kids

  pub EachMeetMeets : Shapes → Type 0
  EachMeetMeets none = Unit {0}
  EachMeetMeets (child s ss) = AllMeetsMeet s × EachMeetMeets ss

-- a tree that the grammar allows: its leaves are within their ranges, at most 64 operators are nested, no meet is empty,
-- and leaves of the plane and of space do not both occur
pub record IsAllowed (s : Shape) : Type 0 where
  pub ranges : AllLeaves IsLeaf s
  pub nested : depth s ≤ 64
  pub meets : AllMeetsMeet s
  pub kind : AllLeaves IsFlat s ⊎ AllLeaves IsSpaceLeaf s

-- the text spells the tree: its tokens are a token sequence of the tree, which is one that the grammar allows. Blanks and
-- comments are free between tokens
pub record Spells (text : List ℕ) (s : Shape) : Type 0 where
  pub words : List (List ℕ)
  pub tokens : tokens_of text ≡ Some words
  pub spelled : IsWords s words
  pub allowed : IsAllowed s

-- ---- laws

-- a text spells at most one tree
abbrev pub SpellsOneTree : Type 0
SpellsOneTree = (text : List ℕ) (s t : Shape) → Spells text s → Spells text t → s ≡ t

-- so each token sequence is one of one allowed tree at most
abbrev pub WordsOfOneTree : Type 0
WordsOfOneTree = (ws : List (List ℕ)) (s t : Shape) → IsAllowed s → IsAllowed t → IsWords s ws → IsWords t ws → s ≡ t

-- an axis leaf has two token sequences, the long one and the short one, and these differ
abbrev pub AxisLeafHasTwo : Type 0
AxisLeafHasTwo = (l : Leaf) → IsAxis l → IsLeafWords l (long_words l) × IsLeafWords l (short_words l) × (long_words l ≡ short_words l → ⊥)

-- every other leaf has one
abbrev pub OtherLeafHasOne : Type 0
OtherLeafHasOne = (l : Leaf) → (IsAxis l → ⊥) → (ws : List (List ℕ)) → IsLeafWords l ws → ws ≡ long_words l

-- each tree has exactly one token sequence in which every axis leaf is short: `words`, which is one of its token sequences
abbrev pub ShortOnce : Type 0
ShortOnce = (s : Shape) → IsShortWords s (words s) × ((ws : List (List ℕ)) → IsShortWords s ws → ws ≡ words s) × IsWords s (words s)
