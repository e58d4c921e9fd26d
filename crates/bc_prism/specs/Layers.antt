-- Layers: trees of the plane, each between two heights. Where they hold, their tokens, and when a text spells them. (After
-- OpenSCAD's linear_extrude; each number has one spelling.)
use Rattle.std.specs.Prelude.{◌≡◌, ◌⊎◌, ℕ, ℤ, pos, ◌-ℤ◌, ◌*ℤ◌, ◌≤ℤ◌, ◌<ℤ◌, List, [], ◌∷◌, ◌++◌, codes, map, Some}
use Rattle.std.specs.List.{All}
use Rattle.std.specs.Fmt.{signed_decimal}
use Rattle.bc_algebra.specs.Within.{IsWithin}
use Rattle.bc_num.specs.declared.p2.P2.{P2}
use Rattle.bc_num.specs.declared.p3.P3.{P3}
use Rattle.bc_num.specs.Tokens.{tokens_of}
use Rattle.bc_tree.specs.Shape.{Shape, shape, AllLeaves}
use Rattle.bc_tree.specs.Leaves.{IsFlat}
use Rattle.bc_tree.specs.Holds.{Holds2}
use Rattle.bc_tree.specs.Spells.{IsAllowed, Spells}
use Rattle.bc_tree.specs.Words.{translate_words, call_words, block_words}
use Rattle.bc_prism.specs.declared.layer.Layer.{Layer}

-- a tree of the plane between two heights, without any capacity
pub record ALayer : Type 0 where
  pub z0 : ℤ
  pub z1 : ℤ
  pub tree : Shape

abbrev pub a_layer : Layer → ALayer
a_layer l = record { z0 = l.z0; z1 = l.z1; tree = shape l.tree }

abbrev pub layers_of : List Layer → List ALayer
layers_of ls = map a_layer ls

-- ---- where layers hold

-- the point of the plane below or above a point of space
abbrev pub ground : P3 → P2
ground p = record { x = p.x; y = p.y; w = p.w; positive = p.positive }

-- the height is from z0 to z1, and the tree holds there
pub record HoldsLayer (l : ALayer) (p : P3) : Type 0 where
  pub low : (l.z0 *ℤ p.w) ≤ℤ p.z
  pub high : p.z ≤ℤ (l.z1 *ℤ p.w)
  pub tree : Holds2 l.tree (ground p)

-- some layer holds
abbrev pub HoldsLayers : List ALayer → P3 → Type 0
HoldsLayers [] p = ⊥
HoldsLayers (l ∷ ls) p = HoldsLayer l p ⊎ HoldsLayers ls p

-- ---- their tokens

-- those of the line before a layer's tree
abbrev pub height_words : ℤ → ℤ → List (List ℕ)
height_words z0 z1 = translate_words (pos 0) (pos 0) z0 ++ call_words (codes "linear_extrude") (codes "height" ∷ codes "=" ∷ signed_decimal (z1 -ℤ z0) ∷ [])

-- those of some text that spells the tree
abbrev pub AreTreeWords : Shape → List (List ℕ) → Type 0
AreTreeWords s ws = (text : List ℕ) × (tokens_of text ≡ Some ws) × Spells text s

-- of each layer those of its line and of its tree
abbrev pub AreLayerWords : List ALayer → List (List ℕ) → Type 0
AreLayerWords [] ws = ws ≡ []
AreLayerWords (l ∷ ls) ws =
    (tree : List (List ℕ)) × (rest : List (List ℕ)) × AreTreeWords l.tree tree × AreLayerWords ls rest × (ws ≡ height_words l.z0 l.z1 ++ (tree ++ rest))

-- ---- when a text spells them

-- the heights are within their range and in order, and the tree is one of the plane that the grammar allows
pub record IsLawfulLayer (l : ALayer) : Type 0 where
  pub low : IsWithin 1023 l.z0
  pub high : IsWithin 1023 l.z1
  pub up : l.z0 <ℤ l.z1
  pub allowed : IsAllowed l.tree
  pub flat : AllLeaves IsFlat l.tree

-- the text spells the layers, which stand in one union; blanks and comments are free between its tokens
pub record SpellsLayers (text : List ℕ) (ls : List ALayer) : Type 0 where
  pub inside : List (List ℕ)
  pub tokens : tokens_of text ≡ Some (block_words (codes "union") inside)
  pub spelled : AreLayerWords ls inside
  pub lawful : All IsLawfulLayer ls
