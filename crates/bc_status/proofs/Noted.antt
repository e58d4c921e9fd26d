-- What the sink for notes holds behind the line of a status.
use Rattle.std.proofs.Common.{◌≡◌, ℕ, List, [], ◌∷◌, ◌++◌, Option, None, Some, Result, Ok, Err, append-nil, subst, refl, ◌∙◌}
use Rattle.std.specs.Io.KnownBytes.{Appends, Keeps}
use Rattle.bc_io.specs.Causes.{HasCause}
use Rattle.bc_io.specs.Pieces.{Puts}
use Rattle.bc_io.proofs.Known.{either_way}
use Rattle.bc_status.specs.declared.status.Status.{Status}
use Rattle.bc_status.specs.declared.status.Status.TheVariants.{Done, Refused, Usage, ReadFault, WriteFault, Memory}
use Rattle.bc_status.specs.Reports.{line, Notes}

-- nothing more was put
nothing_put : (a b : Option (List ℕ)) → Appends a b [] → Keeps a b
nothing_put None b p = tt
nothing_put (Some x) None p = absurd p
nothing_put (Some x) (Some y) p = p ∙ append-nil x

empty_front : (xs ys : List ℕ) → [] ≡ xs ++ ys → xs ≡ []
empty_front [] ys e = refl
empty_front (x ∷ xs) ys e = cc

nothing_done : {T E : Type 0} (a b : Option (List ℕ)) (r : Result T E) → Puts a b r [] → Keeps a b
nothing_done a b (Ok x) p = nothing_put a b p
nothing_done a b (Err e) p = nothing_put a b (subst (λ (l : List ℕ). Appends a b l) (empty_front p.0 p.1 p.2) p.3)

pub noted : {T E : Type 0} (s : Status) (a b : Option (List ℕ)) (r : Result T E) (before now : ℕ) → Puts a b r (line s) → HasCause before now r → Notes s a b before now
noted Done a b r before now p h = nothing_done a b r p
noted (Refused f) a b r before now p h = either_way a b (line (Refused f)) r before now p h
noted Usage a b r before now p h = either_way a b (line Usage) r before now p h
noted ReadFault a b r before now p h = either_way a b (line ReadFault) r before now p h
noted WriteFault a b r before now p h = either_way a b (line WriteFault) r before now p h
noted Memory a b r before now p h = either_way a b (line Memory) r before now p h
