-- What holds between the lines while sections are read. A caller of `read_layers` needs none of it.
use Rattle.std.specs.Prelude.{◌≡◌, ◌≤◌, ℕ, ◌+◌, List, [], ◌∷◌, ◌++◌, map, length, Option, None, Some, Result, Ok, Err}
use Rattle.bc_lex.specs.Places.{LinePlace}
use Rattle.bc_lex.specs.Left.{lines_left}
use Rattle.bc_prism.specs.declared.fault.LayerFault.{LayerFault}
use Rattle.bc_prism.specs.declared.fault.LayerFault.TheVariants as faults
use Rattle.bc_prism.specs.declared.row.Row.{Row}
use Rattle.bc_prism.specs.declared.row.Kind.{Kind}
use Rattle.bc_prism.specs.declared.row.Kind.TheVariants as kinds
use Rattle.bc_prism.specs.declared.layer.Section.{Section}
use Rattle.bc_prism.specs.declared.sections.Open.{Open}
use Rattle.bc_prism.specs.Rows.{rows, rows_from}
use Rattle.bc_prism.specs.Sections.{ASection, section, part, next_layer, sections, sections_in, first_fault, fault_at}

-- the rows that are left at a place
abbrev pub rows_at : LinePlace → List Row
rows_at p = rows_from (length p.text) (p.number + 1) p.at (lines_left p)

abbrev pub row_then : Option Row → List Row → List Row
row_then None rest = []
row_then (Some r) rest = r ∷ rest

-- a section that is begun can end there
abbrev pub EndsIn : Option Open → ℕ → List ℕ → Type 0
EndsIn None to text = Unit {0}
EndsIn (Some o) to text = (o.from ≤ to) × (to ≤ length text)

-- the section that is begun, if it ends there
abbrev pub closed : Option Open → List ℕ → ℕ → List ASection
closed None text to = []
closed (Some o) text to = record { z0 = o.z0; z1 = o.z1; text = part text o.from to } ∷ []

-- how many `LAYER` lines came
abbrev pub layers_so_far : List Section → Option Open → ℕ
layers_so_far made None = length made
layers_so_far made (Some o) = length made + 1

-- what a row closes
abbrev pub closes : Kind → Option Open → List ℕ → ℕ → List ASection
closes (kinds.Layer z0 z1) begun text to = closed begun text to
closes kinds.Empty begun text to = []
closes kinds.Other begun text to = []
closes kinds.Bad begun text to = []

-- what is begun behind a row
abbrev pub begins : Kind → Option Open → ℕ → Option Open
begins (kinds.Layer z0 z1) begun behind = Some (record { z0 = z0; z1 = z1; from = behind })
begins kinds.Empty begun behind = begun
begins kinds.Other begun behind = begun
begins kinds.Bad begun behind = begun

-- a row was taken: it is not at fault, and what it closes was added; or its fault is answered
abbrev pub TakesRow : Result (Option Open) LayerFault → ℕ → List Section → List Section → Option Open → List ℕ → Row → Type 0
TakesRow (Ok o) n old new begun text r = (fault_at n r.number r.kind ≡ None) × (map section new ≡ map section old ++ closes r.kind begun text r.from) × (o ≡ begins r.kind begun r.behind)
TakesRow (Err faults.Memory) n old new begun text r = Unit {0}
TakesRow (Err f) n old new begun text r = fault_at n r.number r.kind ≡ Some f

-- the sections of a text without a line at fault, or its first fault
abbrev pub ReadsLines : Result (List Section) LayerFault → List ℕ → Type 0
ReadsLines (Ok ss) text = (first_fault 0 (rows text) ≡ None) × (map section ss ≡ sections text)
ReadsLines (Err faults.Memory) text = Unit {0}
ReadsLines (Err f) text = first_fault 0 (rows text) ≡ Some f

-- what is to come: the rest of the section that is begun, and the sections of the rows that are left
abbrev pub pending : Option Open → List ℕ → List Row → List ASection
pending begun text rs = closed begun text (next_layer (length text) rs) ++ sections_in text rs
