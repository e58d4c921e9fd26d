-- Steps that answer a value or the first fault, and what an answer says where memory may run out.
use Rattle.std.specs.Prelude.{◌≡◌, Result, Ok, Err}
use Rattle.bc_off.specs.declared.fault.OffFault.{OffFault}
use Rattle.bc_off.specs.declared.fault.OffFault.TheVariants.{Memory}

-- the fault of the first step, or what the second step makes of its value
infixl 10 ◌>>=◌
abbrev pub ◌>>=◌ : {A B : Type 0} → Result A OffFault → (A → Result B OffFault) → Result B OffFault
(Ok x) >>= f = f x
(Err e) >>= f = Err e

-- an answer is the value or the fault that is wanted, unless memory ran out
abbrev pub Gives : {A : Type 0} → Result A OffFault → Result A OffFault → Type 0
Gives (Ok x) want = want ≡ Ok x
Gives (Err Memory) want = Unit {0}
Gives (Err f) want = want ≡ Err f
