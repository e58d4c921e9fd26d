-- Layers written one behind another.
use Rattle.std.proofs.Common.{◌≡◌, ◌≤◌, ◌<◌, ◌+◌, ◌-ℤ◌, ℕ, suc, List, ◌∷◌, ◌++◌, Option, length, get_or, drop, drop-cons, sym, ap, ◌∙◌, append_assoc, append-nil, arith, SFits, w64, ℤ}
use Rattle.std.proofs.lemmas.List.{drop_all}
use Rattle.std.proofs.lemmas.Int.{ints}
use Rattle.bc_algebra.specs.Within.{IsWithin}
use Rattle.bc_io.specs.declared.pen.Pen.{Pen}
use Rattle.bc_io.specs.Growing.{GrewBy}
use Rattle.bc_io.proofs.Grown.{behind}
use Rattle.bc_prism.specs.declared.layer.Layer.{Layer}
use Rattle.bc_prism.specs.Layers.{a_layer, layers_of}
use Rattle.bc_prism.specs.Prisms.{layer_text, layers_text}

-- the text of some layers
abbrev text_of : List Layer → List ℕ
text_of ls = layers_text (layers_of ls)

-- a layer more, and then those that are left, are all
pub layer_more : {K : Type 0} {held : K → Option (List ℕ)} {faults : K → ℕ} {a b c : Pen K} (all done : List ℕ) (layers : List Layer) (i : ℕ) (l : Layer) → i < length layers → l ≡ get_or layers i l
    → GrewBy held faults a b done → GrewBy held faults b c (layer_text (a_layer l)) → done ++ layers_text (layers_of (drop i layers)) ≡ all
    → (more : List ℕ) × GrewBy held faults a c more × (more ++ layers_text (layers_of (drop (i + 1) layers)) ≡ all)
layer_more all done layers i l h is d e g =
    let next : suc i ≡ i + 1 = omega arith in
    let one = layer_text (a_layer l) in (
      done ++ one,
      behind d e,
      append_assoc done one (text_of (drop (i + 1) layers))
          ∙ ap (λ j. done ++ (one ++ text_of (drop j layers))) (sym next)
          ∙ ap (λ ls. done ++ text_of ls) (sym (drop-cons layers i l h ∙ ap (λ y. y ∷ drop (suc i) layers) (sym is))) ∙ g,
    )

pub layers_done : (all done : List ℕ) (layers : List Layer) (i : ℕ) → length layers ≤ i → done ++ layers_text (layers_of (drop i layers)) ≡ all → done ≡ all
layers_done all done layers i h e = sym (append-nil done) ∙ ap (λ ls. done ++ text_of ls) (sym (drop_all i layers h)) ∙ e

-- a height of a layer is a number of the type
pub height_fits : (z0 z1 : ℤ) → IsWithin 1023 z0 → IsWithin 1023 z1 → SFits w64 (z1 -ℤ z0)
height_fits z0 z1 h k = omega (arith, ints)
