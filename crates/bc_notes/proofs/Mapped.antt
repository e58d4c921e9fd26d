-- The products of terms, place by place.
use Rattle.std.proofs.Common.{◌≡◌, ◌↔◌, ℕ, List, Option, None, Some, refl, sym, ap, ◌∙◌, subst}
use Rattle.std.specs.Prelude.{slice_get, option_map}
use Rattle.std.proofs.lemmas.Option.{slice_get-map}
use Rattle.bc_cover.specs.declared.term.Term.{Term}
use Rattle.bc_cover.specs.Covers.{Holds}
use Rattle.bc_tree.specs.declared.product.Product.{Product}
use Rattle.bc_tree.specs.Cuts.{product_of}
use Rattle.bc_notes.specs.Products.{products_of, HoldsMask}
use Rattle.bc_notes.specs.Chosen.{IsAlone}

-- the product of a term
pub product_at : (terms : List Term) (i : ℕ) (t : Term) → slice_get terms i ≡ Some t → slice_get (products_of terms) i ≡ Some (product_of t)
product_at terms i t e = slice_get-map product_of terms i ∙ ap (option_map product_of) e

of_term : (found : Option Term) (p : Product) → option_map product_of found ≡ Some p → (t : Term) × (found ≡ Some t) × (p ≡ product_of t)
of_term None p e = cc
of_term (Some t) p e = (t, refl, cc)

-- each product is that of a term
pub term_at : (terms : List Term) (i : ℕ) (p : Product) → slice_get (products_of terms) i ≡ Some p → (t : Term) × (slice_get terms i ≡ Some t) × (p ≡ product_of t)
term_at terms i p e = of_term (slice_get terms i) p (sym (slice_get-map product_of terms i) ∙ e)

-- a term alone holds a mask exactly if its product does
pub alone_as_product : (terms : List Term) (i mask : ℕ) → ((j : ℕ) (t : Term) → slice_get terms j ≡ Some t → (Holds t mask ↔ (j ≡ i))) ↔ IsAlone (products_of terms) i mask
alone_as_product terms i mask = (
  λ h j p e. let u = term_at terms j p e in subst (λ (q : Product). HoldsMask q mask ↔ (j ≡ i)) (sym u.2) (h j u.0 u.1),
  λ h j t e. h j (product_of t) (product_at terms j t e),
)
