-- The sections of a text of layers, and its first fault.
use Rattle.std.specs.Prelude.{◌≡◌, ◌≤◌, ℕ, zero, suc, ◌+◌, ◌-◌, Bool, ◌&&◌, nat_lt, List, [], ◌∷◌, ◌++◌, map, length, take, drop, ℤ, ◌<ℤ◌, Option, None, Some, Result, Ok, Err, if◌then◌else◌, position}
use lib.Signed.{lt_z}
use Rattle.bc_algebra.specs.Within.{IsWithin}
use Rattle.std.specs.List.{All}
use Rattle.bc_prism.specs.declared.fault.LayerFault.{LayerFault}
use Rattle.bc_prism.specs.declared.fault.LayerFault.TheVariants as faults
use Rattle.bc_prism.specs.declared.row.Kind.{Kind}
use Rattle.bc_prism.specs.declared.row.Kind.TheVariants as kinds
use Rattle.bc_prism.specs.declared.layer.Section.{Section}
use Rattle.bc_prism.specs.declared.row.Row.{Row}
use Rattle.bc_prism.specs.Rows.{rows}

-- ---- faults of lines

-- the fault of a line behind so many `LAYER` lines
abbrev pub fault_at : ℕ → ℕ → Kind → Option LayerFault
fault_at n number kinds.Empty = None
fault_at zero number kinds.Other = Some (faults.BadLayer number)
fault_at (suc n) number kinds.Other = None
fault_at n number kinds.Bad = Some (faults.BadLayer number)
fault_at n number (kinds.Layer z0 z1) = if nat_lt n 64 then None else Some (faults.TooManyLayers number)

abbrev pub layers_behind : ℕ → Kind → ℕ
layers_behind n (kinds.Layer z0 z1) = n + 1
layers_behind n kinds.Empty = n
layers_behind n kinds.Other = n
layers_behind n kinds.Bad = n

abbrev pub or_else : Option LayerFault → Option LayerFault → Option LayerFault
or_else None later = later
or_else (Some f) later = Some f

-- the first line at fault
abbrev pub first_fault : ℕ → List Row → Option LayerFault
first_fault n [] = None
first_fault n (r ∷ rs) = or_else (fault_at n r.number r.kind) (first_fault (layers_behind n r.kind) rs)

-- ---- sections

-- a section as its heights and its bytes
pub record ASection : Type 0 where
  pub z0 : ℤ
  pub z1 : ℤ
  pub text : List ℕ

abbrev pub section : Section → ASection
section s = record { z0 = s.z0; z1 = s.z1; text = s.text.now }

-- where the next `LAYER` line begins, or the end
abbrev pub next_from : Kind → ℕ → ℕ → ℕ
next_from (kinds.Layer z0 z1) from later = from
next_from kinds.Empty from later = later
next_from kinds.Other from later = later
next_from kinds.Bad from later = later

abbrev pub next_layer : ℕ → List Row → ℕ
next_layer end [] = end
next_layer end (r ∷ rs) = next_from r.kind r.from (next_layer end rs)

-- the bytes of a text from one place to another
abbrev pub part : List ℕ → ℕ → ℕ → List ℕ
part text from to = take (to - from) (drop from text)

-- a `LAYER` line begins a section, which goes on to the next one
abbrev pub with_section : Kind → List ℕ → List ASection → List ASection
with_section (kinds.Layer z0 z1) text later = record { z0 = z0; z1 = z1; text = text } ∷ later
with_section kinds.Empty text later = later
with_section kinds.Other text later = later
with_section kinds.Bad text later = later

abbrev pub sections_in : List ℕ → List Row → List ASection
sections_in text [] = []
sections_in text (r ∷ rs) = with_section r.kind (part text r.behind (next_layer (length text) rs)) (sections_in text rs)

abbrev pub sections : List ℕ → List ASection
sections text = sections_in text (rows text)

-- the heights are within their range, the first one below the second
pub record HasLawfulHeights (s : ASection) : Type 0 where
  pub low : IsWithin 1023 s.z0
  pub high : IsWithin 1023 s.z1
  pub up : s.z0 <ℤ s.z1

-- each section of each text has lawful heights
abbrev pub HeightsAreLawful : Type 0
HeightsAreLawful = (text : List ℕ) → All HasLawfulHeights (sections text)

-- no section is longer than the text
abbrev pub SectionsAreShort : Type 0
SectionsAreShort = (text : List ℕ) → All (λ s. length s.text ≤ length text) (sections text)

-- ---- overlaps

-- the open intervals between the heights meet
abbrev pub overlap : ASection → ASection → Bool
overlap s t = lt_z s.z0 t.z1 && lt_z t.z0 s.z1

abbrev pub overlap_fault : Option ℕ → ℕ → Option LayerFault → Option LayerFault
overlap_fault None second later = later
overlap_fault (Some first) second later = Some (faults.Overlap first second)

-- the first section that overlaps an earlier one, and the first one that it overlaps
abbrev pub first_overlap : List ASection → List ASection → Option LayerFault
first_overlap earlier [] = None
first_overlap earlier (s ∷ ss) = overlap_fault (position (overlap s) earlier) (length earlier) (first_overlap (earlier ++ s ∷ []) ss)

-- ---- the outcome

-- the first fault of the text
abbrev pub fault_of : List ℕ → Option LayerFault
fault_of text = or_else (first_fault 0 (rows text)) (first_overlap [] (sections text))

-- a text without a fault has its sections; else its first fault is answered
abbrev pub Reads : Result (List Section) LayerFault → List ℕ → Type 0
Reads (Ok ss) text = (fault_of text ≡ None) × (map section ss ≡ sections text)
Reads (Err faults.Memory) text = Unit {0}
Reads (Err f) text = fault_of text ≡ Some f
