-- Refusals of one part of a text, told as such.
use Rattle.std.specs.Prelude.{ℕ}
use Rattle.bc_status.specs.declared.parts.PartFault.TheVariants as part
use Rattle.bc_status.specs.declared.parts.InnerFault.TheVariants as inner
use Rattle.bc_status.specs.declared.status.Refusal.{Refusal}
use Rattle.bc_status.specs.declared.status.Refusal.TheVariants.{Off, G, Mesh, Contour, Limit, Csg, Second, InLayer}
use Rattle.bc_status.specs.declared.status.Status.{Status}
use Rattle.bc_status.specs.declared.status.Status.TheVariants.{Refused}

-- the same fault of a text that is the second part of a joined one
abbrev pub refusal_in_second : Refusal → Refusal
refusal_in_second (Off f) = Second (part.Off f)
refusal_in_second (G f) = Second (part.G f)
refusal_in_second (Mesh f) = Second (part.Mesh f)
refusal_in_second (Contour f) = Second (part.Contour f)
refusal_in_second (Csg f) = Second (part.Csg f)
refusal_in_second f = f

abbrev pub in_second : Status → Status
in_second (Refused f) = Refused (refusal_in_second f)
in_second s = s

-- the same fault of contours that are a section of layers
abbrev pub refusal_in_layer : ℕ → Refusal → Refusal
refusal_in_layer k (G f) = InLayer k (inner.G f)
refusal_in_layer k (Contour f) = InLayer k (inner.Contour f)
refusal_in_layer k (Limit f) = InLayer k (inner.Limit f)
refusal_in_layer k f = f

abbrev pub in_layer : ℕ → Status → Status
in_layer k (Refused f) = Refused (refusal_in_layer k f)
in_layer k s = s
