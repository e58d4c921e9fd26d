-- What becomes of a fault of the crates below.
use Rattle.std.specs.Prelude.{◌≡◌, ◌≢◌, ◌⊎◌}
use Rattle.bc_audit.specs.declared.fault.AuditFault.{AuditFault}
use Rattle.bc_audit.specs.declared.fault.AuditFault.TheVariants as audits
use Rattle.bc_io.specs.declared.whole.ReadEnd.{ReadEnd}
use Rattle.bc_io.specs.declared.whole.ReadEnd.TheVariants as ends
use Rattle.bc_natural.specs.declared.nat_fault.NatFault.TheVariants as limits
use Rattle.bc_status.specs.declared.status.Refusal.{Refusal}
use Rattle.bc_status.specs.declared.status.Refusal.TheVariants as refusals
use Rattle.bc_status.specs.declared.status.Status.{Status}
use Rattle.bc_status.specs.declared.status.Status.TheVariants.{Refused, ReadFault, Memory}

-- want of memory is a status of its own; every other fault is refused as what it is
abbrev pub Becomes : {F : Type 0} → F → (F → Refusal) → F → Status → Type 0
Becomes memory refused fault s = ((fault ≡ memory) × (s ≡ Memory)) ⊎ ((fault ≢ memory) × (s ≡ Refused (refused fault)))

-- how reading ended
abbrev pub IsEndOfReading : ReadEnd → Status → Type 0
IsEndOfReading ends.Fault s = s ≡ ReadFault
IsEndOfReading ends.TooLong s = s ≡ Refused refusals.TooLong
IsEndOfReading ends.Memory s = s ≡ Memory

-- why a formula is not audited
abbrev pub IsEndOfAudit : AuditFault → Status → Type 0
IsEndOfAudit audits.OtherBox s = s ≡ Refused refusals.OtherBox
IsEndOfAudit (audits.TooManyPlanes n) s = s ≡ Refused (refusals.Limit (limits.TooManyPlanes n))
IsEndOfAudit audits.Memory s = s ≡ Memory
