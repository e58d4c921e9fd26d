-- The layout of layers: each layer's tree extruded between its heights, in one union. (After OpenSCAD's syntax; the layout is
-- this project's own.)
use Rattle.std.specs.Prelude.{ℕ, ◌≤◌, List, [], ◌∷◌, ◌++◌, codes, ℤ, ◌-ℤ◌, ◌<ℤ◌}
use Rattle.std.specs.Fmt.{signed_decimal}
use Rattle.bc_algebra.specs.Within.{IsWithin}
use Rattle.bc_num.specs.declared.box3.Box3.{Box3}
use Rattle.bc_tree.specs.Shape.{shape, depth, AllLeaves}
use Rattle.bc_tree.specs.Leaves.{IsLeaf, IsFlat}
use Rattle.bc_text.specs.Layout.{node_text, solid_box_line}
use Rattle.bc_prism.specs.declared.layer.Layer.{Layer}
use Rattle.bc_prism.specs.Layers.{ALayer}

-- the heights are lawful, and the tree is one of the plane with at most 64 operators nested
pub record IsLayer (l : Layer) : Type 0 where
  pub low : IsWithin 1023 l.z0
  pub high : IsWithin 1023 l.z1
  pub up : l.z0 <ℤ l.z1
  pub flat : AllLeaves IsFlat (shape l.tree)
  pub leaves : AllLeaves IsLeaf (shape l.tree)
  pub nested : depth (shape l.tree) ≤ 64

-- the first line, which names the kind; the second one is that of the box
abbrev pub prism_line : List ℕ
prism_line = codes "// bcsg 2 prism"

-- the line before a layer's tree
abbrev pub height_line : ℤ → ℤ → List ℕ
height_line z0 z1 = codes "  translate([0,0," ++ (signed_decimal z0 ++ ((codes "]) linear_extrude(height=" ++ signed_decimal (z1 -ℤ z0)) ++ codes ")\n"))

-- and its tree, two levels deep
abbrev pub layer_text : ALayer → List ℕ
layer_text l = height_line l.z0 l.z1 ++ node_text [] 2 0 l.tree

abbrev pub layers_text : List ALayer → List ℕ
layers_text [] = []
layers_text (l ∷ ls) = layer_text l ++ layers_text ls

abbrev pub prism_layout : Box3 → List ALayer → List ℕ
prism_layout bounds ls = (prism_line ++ codes "\n") ++ ((solid_box_line bounds ++ codes "\n") ++ (codes "union() {\n" ++ (layers_text ls ++ codes "}\n")))
