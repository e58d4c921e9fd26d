-- Masks in groups of such as stand next to one another, and the places of the masks that a term holds.
use Rattle.std.specs.Prelude.{ℕ, zero, suc, ◌≡◌, ◌≤◌, ◌<◌, Bool, if◌then◌else◌, List, [], ◌∷◌, ◌++◌, IsTrue, length, slice_index}
use Rattle.bc_cover.specs.declared.groups.Group.{Group}
use Rattle.bc_cover.specs.Masks.{admits, agrees}

-- the masks from the place start to before the group's end are like the group's mask in the bits that are alike
pub record IsGroup (masks : List ℕ) (start : ℕ) (g : Group) : Type 0 where
  pub order : start ≤ g.end
  pub within : g.end ≤ length masks
  pub alike : (i : ℕ) → start ≤ i → i < g.end → IsTrue (agrees g.alike g.mask (slice_index masks i))

-- one behind the other the groups have the masks from one place to before another
abbrev pub AreGroupsTo : List ℕ → ℕ → List Group → ℕ → Type 0
AreGroupsTo masks from [] to = from ≡ to
AreGroupsTo masks from (g ∷ groups) to = IsGroup masks from g × AreGroupsTo masks g.end groups to

-- each mask is in a group
abbrev pub AreGroups : List ℕ → List Group → Type 0
AreGroups masks groups = AreGroupsTo masks 0 groups (length masks)

-- the places below n that pass the test, in ascending order
abbrev pub places_where : (ℕ → Bool) → ℕ → List ℕ
places_where test zero = []
places_where test (suc n) = if test n then places_where test n ++ n ∷ [] else places_where test n

-- the places below n whose masks have all bits of pos and none of neg
abbrev pub held_below : List ℕ → ℕ → ℕ → ℕ → List ℕ
held_below masks pos neg n = places_where (λ i. admits pos neg (slice_index masks i)) n

abbrev pub held_places : List ℕ → ℕ → ℕ → List ℕ
held_places masks pos neg = held_below masks pos neg (length masks)
