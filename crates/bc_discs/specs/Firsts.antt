-- The rules where one disc more is decided: at its choice alone, and at it with each of the choices made before, in both orders.
use Rattle.std.specs.Prelude.{◌≡◌, true, false, ◌⊎◌, List}
use Rattle.std.specs.List.{Any}
use Rattle.bc_num.specs.declared.p2.P2.{P2}
use Rattle.bc_num.specs.declared.disc2.Disc2.{Disc2}
use Rattle.bc_discs.specs.declared.wall.Wall.{Wall}
use Rattle.bc_discs.specs.declared.choice.Choice.{Choice}
use Rattle.bc_discs.specs.Rules.{IsAround, IsCutOff, AreApart, IsNestedIn}
use Rattle.bc_discs.specs.Thinning.{IsMissed, IsExceeded}

-- ---- a disc and another of the choices, of which So holds

-- the disc is in the set, and so is the other
abbrev pub TakenWithTaken : (Disc2 → Disc2 → Type 0) → Choice → List Choice → Type 0
TakenWithTaken So c cs = (c.is_in ≡ true) × Any (λ e. (e.is_in ≡ true) × So c.disc e.disc) cs

-- the disc is in the set, and the other is not
abbrev pub TakenWithLeft : (Disc2 → Disc2 → Type 0) → Choice → List Choice → Type 0
TakenWithLeft So c cs = (c.is_in ≡ true) × Any (λ e. (e.is_in ≡ false) × So c.disc e.disc) cs

-- the disc is not in the set, and the other is; So holds of the other and the disc
abbrev pub LeftWithTaken : (Disc2 → Disc2 → Type 0) → Choice → List Choice → Type 0
LeftWithTaken So c cs = (c.is_in ≡ false) × Any (λ e. (e.is_in ≡ true) × So e.disc c.disc) cs

-- ---- the dropping rules

abbrev pub IsAtOdds : List P2 → List Wall → Choice → Type 0
IsAtOdds corners walls c = ((c.is_in ≡ false) × IsAround corners c.disc) ⊎ ((c.is_in ≡ true) × Any (λ wall. IsCutOff wall c.disc) walls)

abbrev pub IsContradictory : Choice → List Choice → Type 0
IsContradictory c cs = TakenWithTaken AreApart c cs ⊎ (TakenWithLeft IsNestedIn c cs ⊎ LeftWithTaken IsNestedIn c cs)

abbrev pub DropsFirst : List P2 → List Wall → Choice → List Choice → Type 0
DropsFirst corners walls c cs = IsAtOdds corners walls c ⊎ IsContradictory c cs

-- ---- the two exact rules

abbrev pub ThinsFirst : List P2 → Choice → List Choice → Type 0
ThinsFirst corners c cs =
    ((c.is_in ≡ true) × IsMissed corners c.disc) ⊎ (TakenWithLeft (IsExceeded corners) c cs ⊎ LeftWithTaken (IsExceeded corners) c cs)
