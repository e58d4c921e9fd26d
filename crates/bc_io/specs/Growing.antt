-- What calls put to a pen: a text that grows at its end.
use Rattle.std.specs.Prelude.{◌≡◌, ℕ, Bool, true, false, List, ◌++◌, take, Option, Result}
use Rattle.bc_io.specs.Causes.{HasCause}
use Rattle.bc_io.specs.Pieces.{Puts}
use Rattle.bc_io.specs.declared.pen.Pen.{Pen}
use Rattle.bc_io.specs.Taking.{HasPut}

-- a write has failed
abbrev pub has_failed : {K : Type 0} → Pen K → Bool
has_failed p = p.failed

-- nothing is put yet, and the sink is as it was
pub record IsNew {K : Type 0} (p : Pen K) (out : K) : Type 0 where
  pub kept : p.out.now ≡ out
  pub empty : p.len ≡ 0
  pub whole : p.failed ≡ false

-- this text was put, since the sink held `start` and had `before` faults
abbrev pub WasPut : {K : Type 0} → (K → Option (List ℕ)) → (K → ℕ) → Option (List ℕ) → ℕ → Pen K → List ℕ → Type 0
WasPut held faults start before p text = HasPut start before (held p.out.now) (faults p.out.now) (take p.len p.buf.now) p.failed text

-- the piece goes behind what was put before, through the same buffer to the same sink; once a write has failed the sink gets
-- nothing more
pub record GrewBy {K : Type 0} (held : K → Option (List ℕ)) (faults : K → ℕ) (old new : Pen K) (piece : List ℕ) : Type 0 where
  pub sink : new.out.ghost_name ≡ old.out.ghost_name
  pub buffer : new.buf.ghost_name ≡ old.buf.ghost_name
  pub put : (start : Option (List ℕ)) (before : ℕ) (done : List ℕ) → WasPut held faults start before old done → WasPut held faults start before new (done ++ piece)
  pub stays : has_failed old ≡ true → (has_failed new ≡ true) × (held new.out.now ≡ held old.out.now) × (faults new.out.now ≡ faults old.out.now)

-- all that was put is in the sink; where a write failed a front of it is
pub record IsFinished {K T E : Type 0} (held : K → Option (List ℕ)) (faults : K → ℕ) (old new : Pen K) (result : Result T E) : Type 0 where
  pub put : (start : Option (List ℕ)) (before : ℕ) (done : List ℕ) → WasPut held faults start before old done
      → Puts start (held new.out.now) result done × HasCause before (faults new.out.now) result
