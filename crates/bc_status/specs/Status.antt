-- The exit status of each answer, and facts of one kind of answer.
use Rattle.std.specs.Prelude.{ℕ}
use Rattle.bc_status.specs.declared.status.Refusal.{Refusal}
use Rattle.bc_status.specs.declared.status.Status.{Status}
use Rattle.bc_status.specs.declared.status.Status.TheVariants.{Done, Refused, Usage, ReadFault, WriteFault, Memory}

abbrev pub code_of : Status → ℕ
code_of Done = 0
code_of (Refused f) = 2
code_of Usage = 3
code_of ReadFault = 4
code_of WriteFault = 5
code_of Memory = 6

abbrev pub IfDone : Status → Type 0 → Type 0
IfDone Done P = P
IfDone _ P = Unit {0}

abbrev pub IfRefused : Status → (Refusal → Type 0) → Type 0
IfRefused (Refused f) P = P f
IfRefused _ P = Unit {0}

abbrev pub IfUsage : Status → Type 0 → Type 0
IfUsage Usage P = P
IfUsage _ P = Unit {0}

abbrev pub IfReadFault : Status → Type 0 → Type 0
IfReadFault ReadFault P = P
IfReadFault _ P = Unit {0}

abbrev pub IfWriteFault : Status → Type 0 → Type 0
IfWriteFault WriteFault P = P
IfWriteFault _ P = Unit {0}

-- on every answer behind which the words were found good and the source was read, or was to be
abbrev pub IfReadOn : Status → Type 0 → Type 0
IfReadOn (Refused f) P = Unit {0}
IfReadOn Usage P = Unit {0}
IfReadOn _ P = P

-- on every answer but Done and WriteFault
abbrev pub IfNotPut : Status → Type 0 → Type 0
IfNotPut Done P = Unit {0}
IfNotPut WriteFault P = Unit {0}
IfNotPut _ P = P
