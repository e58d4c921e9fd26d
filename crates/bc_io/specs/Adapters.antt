-- What the adapters keep: the reader or writer inside, and how many faults were counted.
use Rattle.std.specs.Prelude.{ℕ}
use Rattle.bc_io.specs.declared.std_source.StdSource.{StdSource}
use Rattle.bc_io.specs.declared.std_sink.StdSink.{StdSink}

abbrev pub source_inner : {R : Type 0} → StdSource R → R
source_inner s = s.inner

abbrev pub source_faults : {R : Type 0} → StdSource R → ℕ
source_faults s = s.faults

abbrev pub sink_inner : {W : Type 0} → StdSink W → W
sink_inner s = s.inner

abbrev pub sink_faults : {W : Type 0} → StdSink W → ℕ
sink_faults s = s.faults
