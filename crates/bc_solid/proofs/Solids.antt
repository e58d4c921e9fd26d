-- The faces of a solid as they are kept, and as contracts see them.
use Rattle.std.proofs.Common.{◌≡◌, ℕ, List, map, Some, sym, ◌∙◌, ap, slice_get}
use Rattle.std.specs.Prelude.{option_map}
use Rattle.std.proofs.lemmas.Option.{slice_get-map}
use Rattle.bc_solid.specs.declared.solid.Facet.{Facet as Stored}
use Rattle.bc_solid.specs.Facets.{Facet, facet_of}

some_same : {A : Type 0} (a b : A) → Some a ≡ Some b → a ≡ b
some_same a b e = cc

-- the face that is kept at a place is the one that is seen there
pub seen_at : (xs : List Stored) (f : ℕ) (x : Stored) → slice_get xs f ≡ Some x → slice_get (map facet_of xs) f ≡ Some (facet_of x)
seen_at xs f x e = slice_get-map facet_of xs f ∙ ap (option_map facet_of) e

pub same_at : (xs : List Stored) (f : ℕ) (x : Stored) (facet : Facet) → slice_get xs f ≡ Some x → slice_get (map facet_of xs) f ≡ Some facet → facet_of x ≡ facet
same_at xs f x facet e g = some_same (facet_of x) facet (sym (seen_at xs f x e) ∙ g)
