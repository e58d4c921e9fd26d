-- The mask that shows that an element is needed: it comes out wrong where the element is taken out.
use Rattle.std.specs.Prelude.{ℕ, ◌≡◌, true, false, List, Option, Some, None, slice_get, IsSomeAnd}
use Rattle.bc_carve.specs.declared.witness.Witness.{Witness}
use Rattle.bc_carve.specs.declared.witness.Witness.TheVariants.{Inside, Outside}
use Rattle.bc_carve.specs.Shape.{Shapes, some_holds}
use Rattle.bc_carve.specs.Carving.{AreHeld, NoneHeld}

-- the inside mask that is named is not held, or the outside mask that is named is held; and where none is named, each inside
-- mask is held and no outside mask is
abbrev pub IsShown : List ℕ → List ℕ → Shapes → Option Witness → Type 0
IsShown inside outside ss (Some (Inside place)) = IsSomeAnd (slice_get inside place) (λ mask. some_holds mask ss ≡ false)
IsShown inside outside ss (Some (Outside place)) = IsSomeAnd (slice_get outside place) (λ mask. some_holds mask ss ≡ true)
IsShown inside outside ss None = AreHeld inside ss × NoneHeld outside ss
