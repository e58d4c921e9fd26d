-- How the points of notes are chosen, by masks alone: for a product one of an inside mask that this product alone holds, for a
-- literal one of an outside mask that its product holds once the literal is taken out.
use Rattle.std.specs.Prelude.{◌≡◌, ◌↔◌, ℕ, List, ◌++◌, Option, None, Some, is_some, slice_get, filter, All, Any}
use Rattle.std.specs.List.{AllZip}
use Rattle.bc_tree.specs.declared.product.Product.{Product}
use Rattle.bc_text.specs.declared.note.Spot.{Spot}
use Rattle.bc_text.specs.declared.note.Mark.{Mark}
use Rattle.bc_text.specs.declared.note.Mark.TheVariants.{Own, OwnUndecided, Out, OutUndecided}
use Rattle.bc_text.specs.declared.note.Note.{Note}
use Rattle.bc_notes.specs.declared.shown.Shown.{Shown}
use Rattle.bc_notes.specs.Products.{HoldsMask, without_literal}
use Rattle.bc_notes.specs.Noted.{Subject, the_product, the_literal, Noted}

-- the product at place i holds the mask, and no other product does
abbrev pub IsAlone : List Product → ℕ → ℕ → Type 0
IsAlone products i mask = (j : ℕ) (p : Product) → slice_get products j ≡ Some p → (HoldsMask p mask ↔ (j ≡ i))

-- those of the masks that have a point
abbrev pub seen_of : List Shown → List Shown
seen_of list = filter (λ m. is_some m.spot) list

-- the point, where its mask will do; none where it won't, or there is no point
abbrev pub IsSpotWhere : Type 0 → Option Spot → Option Spot → Type 0
IsSpotWhere Will spot (Some s) = Will × (spot ≡ Some s)
IsSpotWhere Will spot None = Will → spot ≡ None

-- a point of a mask that will do; none where no mask that will do has a point
abbrev pub IsChosen : (ℕ → Type 0) → List Shown → Option Spot → Type 0
IsChosen Will list (Some s) = Any (λ m. Will m.mask × (m.spot ≡ Some s)) list
IsChosen Will list None = All (λ m. Will m.mask → m.spot ≡ None) list

abbrev pub own_mark : Option Spot → Mark
own_mark (Some s) = Own s
own_mark None = OwnUndecided

abbrev pub out_mark : Option Spot → Mark
out_mark (Some s) = Out s
out_mark None = OutUndecided

-- what the mark before a product, or before a literal, says
abbrev pub IsMarkOf : List Shown → List Shown → List Product → Subject → Mark → Type 0
IsMarkOf inside outside products (the_product i p) mark = (spot : Option Spot) × IsChosen (IsAlone products i) inside spot × (mark ≡ own_mark spot)
IsMarkOf inside outside products (the_literal p l) mark = (spot : Option Spot) × IsChosen (HoldsMask (without_literal p l)) outside spot × (mark ≡ out_mark spot)

pub record IsNoteOf (inside outside : List Shown) (products : List Product) (e : Noted) (note : Note) : Type 0 where
  pub at : note.place ≡ e.place
  pub says : IsMarkOf inside outside products e.subject note.mark

-- the new list is the old one and one note for each entry
pub record AddsNotes (R : Noted → Note → Type 0) (entries : List Noted) (old new : List Note) : Type 0 where
  pub more : List Note
  pub is : new ≡ old ++ more
  pub each : AllZip R entries more
