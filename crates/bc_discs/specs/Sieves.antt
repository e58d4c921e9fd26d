-- The sets of discs that stay with a region where the dropping rules are asked, or these and the two exact ones.
use Rattle.std.specs.Prelude.{ℕ, ◌^◌, ◌<◌, ◌⊎◌, List, length}
use Rattle.std.specs.List.{All, AllPairs, Contains}
use Rattle.bc_num.specs.declared.p2.P2.{P2}
use Rattle.bc_num.specs.declared.disc2.Disc2.{Disc2}
use Rattle.bc_discs.specs.declared.wall.Wall.{Wall}
use Rattle.bc_discs.specs.declared.choice.Choice.{Choice}
use Rattle.bc_discs.specs.declared.sieve.Sieve.{Sieve}
use Rattle.bc_discs.specs.declared.sieve.Sieve.TheVariants.{Coarse, Fine}
use Rattle.bc_discs.specs.Rules.{choices_of, IsDropped}
use Rattle.bc_discs.specs.Thinning.{IsThinned, IsLean}
use Rattle.bc_discs.specs.Candidates.{Keeping, IsKept}
use Rattle.bc_discs.specs.Firsts.{DropsFirst, ThinsFirst}

-- some rule takes out the region with these choices
abbrev pub Fires : Sieve → List P2 → List Wall → List Choice → Type 0
Fires Coarse corners walls choices = IsDropped corners walls choices
Fires Fine corners walls choices = IsDropped corners walls choices ⊎ IsThinned corners choices

-- some rule does so that looks at the first of the choices, the others being these
abbrev pub FiresFirst : Sieve → List P2 → List Wall → Choice → List Choice → Type 0
FiresFirst Coarse corners walls c choices = DropsFirst corners walls c choices
FiresFirst Fine corners walls c choices = DropsFirst corners walls c choices ⊎ ThinsFirst corners c choices

-- the regions and sets that no rule takes out
abbrev pub keeps : Sieve → Keeping
keeps Coarse = IsKept
keeps Fine = IsLean

-- the numbers of a scope that are wanted, ascending
pub record AreListed (Wanted Scope : ℕ → Type 0) (xs : List ℕ) : Type 0 where
  pub each : All Wanted xs
  pub within : All Scope xs
  pub every : (n : ℕ) → Scope n → Wanted n → Contains xs n
  pub order : AllPairs ◌<◌ xs

-- the sets of these discs at which none of the rules fires, as numbers
abbrev pub AreSets : (List Choice → Type 0) → List Disc2 → List ℕ → Type 0
AreSets Rule discs sets = AreListed (λ set. Rule (choices_of set discs) → ⊥) (λ set. set < 2 ^ length discs) sets
