-- What holds of layers and of their texts.
use Rattle.std.specs.Prelude.{◌≡◌, ℕ, ℤ, List, [], ◌∷◌, ◌++◌, codes}
use Rattle.std.specs.List.{All}
use Rattle.bc_num.specs.declared.box3.Box3.{Box3}
use Rattle.bc_num.specs.Lines.{lines}
use Rattle.bc_tree.specs.Shape.{Shape, union, none}
use Rattle.bc_tree.specs.Spells.{Spells}
use Rattle.bc_text.specs.Layout.{solid_box_line}
use Rattle.bc_prism.specs.declared.layer.Layer.{Layer}
use Rattle.bc_prism.specs.Layers.{ALayer, layers_of, height_words, AreTreeWords, IsLawfulLayer, SpellsLayers}
use Rattle.bc_prism.specs.Prisms.{IsLayer, prism_line, prism_layout}

-- a text spells at most one list of layers
abbrev pub SpellsOneList : Type 0
SpellsOneList = (text : List ℕ) (ks ls : List ALayer) → SpellsLayers text ks → SpellsLayers text ls → ks ≡ ls

-- the layout of lawful layers spells them, whatever box stands in its head
abbrev pub LayoutSpellsLayers : Type 0
LayoutSpellsLayers = (bounds : Box3) (ls : List ALayer) → All IsLawfulLayer ls → SpellsLayers (prism_layout bounds ls) ls

-- its first line names its kind, its second the box
abbrev pub PrismHeadLines : Type 0
PrismHeadLines = (bounds : Box3) (ls : List ALayer) → (rest : List (List ℕ)) × (lines (prism_layout bounds ls) ≡ prism_line ∷ (solid_box_line bounds ∷ rest))

-- a text of layers with at least one of them spells no tree
abbrev pub LayersAreNoTree : Type 0
LayersAreNoTree = (text : List ℕ) (l : ALayer) (ls : List ALayer) (s : Shape) → SpellsLayers text (l ∷ ls) → Spells text s → ⊥

-- and where its first line ends no tree goes on: no tree's tokens begin as those of a union with a layer's line
abbrev pub NoTreeBeginsSo : Type 0
NoTreeBeginsSo = (s : Shape) (z0 z1 : ℤ) (ws more rest : List (List ℕ)) → AreTreeWords s ws
    → codes "union" ∷ codes "(" ∷ codes ")" ∷ codes "{" ∷ (height_words z0 z1 ++ more) ≡ ws ++ rest → ⊥

-- a text of no layers spells the empty union, and a text of the empty union spells no layers
abbrev pub NoLayersAreEmpty : Type 0
NoLayersAreEmpty = (text : List ℕ) → (SpellsLayers text [] → Spells text (union none)) × (Spells text (union none) → SpellsLayers text [])

-- lawful layers are those that `prisms` takes
abbrev pub LawfulAreLayers : Type 0
LawfulAreLayers = (ls : List Layer) → All IsLawfulLayer (layers_of ls) → All IsLayer ls
