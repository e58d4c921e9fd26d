-- The layout of layers has their tokens, and its first two lines are those of its head.
use Rattle.std.proofs.Common.{◌≡◌, ℕ, ℤ, pos, ◌-ℤ◌, List, [], ◌∷◌, ◌++◌, codes, refl, ap, ◌∙◌, subst, append_assoc, All}
use Rattle.std.specs.Fmt.{signed_decimal, digits}
use Rattle.std.proofs.lemmas.List.Elements.{All-head, All-tail}
use Rattle.bc_num.specs.declared.box3.Box3.{Box3}
use Rattle.bc_num.specs.Lines.{lines}
use Rattle.bc_num.specs.Tokens.{is_inline}
use Rattle.bc_tree.specs.Words.{words}
use Rattle.bc_text.specs.Layout.{solid_box_words, solid_box_line}
use Rattle.bc_text.proofs.Pieces.{Closed, both, whole, nothing, Runs, runs, number, a_comment, a_line}
use Rattle.bc_text.proofs.Texts.{a_node, union_line, last_line, solid_box_inline}
use Rattle.bc_prism.specs.Layers.{ALayer, height_words, AreLayerWords, IsLawfulLayer}
use Rattle.bc_prism.specs.Prisms.{height_line, prism_line, layers_text}
use Rattle.bc_prism.specs.Laws.{LayoutSpellsLayers, PrismHeadLines}
use Rattle.bc_prism.proofs.TreeWords.{tree_words}

-- ---- tokens

zero_word : codes "0" ≡ signed_decimal (pos 0)
unfolding digits
zero_word = refl

opens_so : Closed (codes "  translate([0,0,") (codes "translate" ∷ codes "(" ∷ codes "[" ∷ codes "0" ∷ codes "," ∷ codes "0" ∷ codes "," ∷ [])
opens_so = record { is = λ rest. refl }

opens : Closed (codes "  translate([0,0,") (codes "translate" ∷ codes "(" ∷ codes "[" ∷ signed_decimal (pos 0) ∷ codes "," ∷ signed_decimal (pos 0) ∷ codes "," ∷ [])
opens = subst (λ w. Closed (codes "  translate([0,0,") (codes "translate" ∷ codes "(" ∷ codes "[" ∷ w ∷ codes "," ∷ w ∷ codes "," ∷ [])) zero_word opens_so

goes_on : Closed (codes "]) linear_extrude(height=") (codes "]" ∷ codes ")" ∷ codes "linear_extrude" ∷ codes "(" ∷ codes "height" ∷ codes "=" ∷ [])
goes_on = record { is = λ rest. refl }

ends : Closed (codes ")\n") (codes ")" ∷ [])
ends = record { is = λ rest. refl }

a_height : (z0 z1 : ℤ) → Closed (height_line z0 z1) (height_words z0 z1)
a_height z0 z1 = both opens (number z0 93 refl (both goes_on (number (z1 -ℤ z0) 41 refl ends)))

-- the tokens of the layers as they are written
abbrev written : List ALayer → List (List ℕ)
written [] = []
written (l ∷ ls) = height_words l.z0 l.z1 ++ (words l.tree ++ written ls)

all_layers : (ls : List ALayer) → Closed (layers_text ls) (written ls)
all_layers [] = nothing
all_layers (l ∷ ls) =
    subst (λ ws. Closed (layers_text (l ∷ ls)) ws) (append_assoc (height_words l.z0 l.z1) (words l.tree) (written ls))
    (both (both (a_height l.z0 l.z1) (a_node [] 2 0 l.tree)) (all_layers ls))

are_written : (ls : List ALayer) → All IsLawfulLayer ls → AreLayerWords ls (written ls)
are_written [] h = refl
are_written (l ∷ ls) h =
    (words l.tree, written ls, tree_words l.tree (All-head IsLawfulLayer l ls h).allowed, are_written ls (All-tail IsLawfulLayer l ls h), refl)

kind_comment : Closed (prism_line ++ codes "\n") []
kind_comment = record { is = λ rest. refl }

box_comment : (b : Box3) → Closed (solid_box_line b ++ codes "\n") []
box_comment b = a_comment (solid_box_words b) (solid_box_inline b)

pub layout_spells_layers : LayoutSpellsLayers
layout_spells_layers bounds ls ok = record {
  inside = written ls;
  tokens = whole (both kind_comment (both (box_comment bounds) (both union_line (both (all_layers ls) last_line))));
  spelled = are_written ls ok;
  lawful = ok;
}

-- ---- lines

kind_inline : Runs is_inline prism_line
kind_inline = record { is = λ rest. refl }

slashes : Runs is_inline (codes "// ")
slashes = record { is = λ rest. refl }

pub prism_head_lines : PrismHeadLines
prism_head_lines bounds ls =
    let rest = codes "union() {\n" ++ (layers_text ls ++ codes "}\n") in
    let box = solid_box_line bounds in (
      lines rest,
      a_line prism_line ((box ++ codes "\n") ++ rest) kind_inline
          ∙ ap (λ l. prism_line ∷ lines l) (append_assoc box (codes "\n") rest)
          ∙ ap (λ ls. prism_line ∷ ls) (a_line box rest (runs slashes (solid_box_inline bounds))),
    )
