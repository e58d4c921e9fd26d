-- Steps that answer a value or the first fault.
use Rattle.std.specs.Prelude.{◌≡◌, Result, Ok, Err}
use Rattle.bc_gcode.specs.declared.fault.GFault.{GFault}
use Rattle.bc_gcode.specs.declared.fault.GFault.TheVariants.{Memory}

-- the fault of the first step, or what the second step makes of its value
infixl 10 ◌>>=◌
abbrev pub ◌>>=◌ : {A B : Type 0} → Result A GFault → (A → Result B GFault) → Result B GFault
(Ok x) >>= f = f x
(Err e) >>= f = Err e

-- what a call that changes a value says: the new value, or a fault
abbrev pub becomes : {A : Type 0} → Result (Unit {0}) GFault → A → Result A GFault
becomes (Ok _) new = Ok new
becomes (Err f) new = Err f

-- the change that is wanted, or its fault, unless memory ran out
abbrev pub Does : {A : Type 0} → Result (Unit {0}) GFault → A → Result A GFault → Type 0
Does (Ok _) new want = want ≡ Ok new
Does (Err Memory) new want = Unit {0}
Does (Err f) new want = want ≡ Err f
