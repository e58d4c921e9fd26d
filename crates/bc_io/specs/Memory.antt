-- What a source and a sink in memory tell, and which of their calls fail.
use Rattle.std.specs.Prelude.{ℕ, ◌+◌, ◌-◌, ◌^◌, Bool, ◌&&◌, ◌||◌, nat_eq, nat_lt, min, List, length, drop, Option, Some}
use Rattle.std.specs.List.{list_any}
use Rattle.bc_io.specs.declared.mem_source.MemSource.{MemSource}
use Rattle.bc_io.specs.declared.mem_sink.MemSink.{MemSink}

-- the number of the next call, behind this many calls; it goes no further than its type
abbrev pub next_call : ℕ → ℕ
next_call calls = min (calls + 1) (2 ^ 64 - 1)

-- the call of this number is among those that fail
abbrev pub is_planned : ℕ → List ℕ → Bool
is_planned call fails = list_any (λ n. nat_eq n call) fails

abbrev pub source_left : MemSource → Option (List ℕ)
source_left s = Some (drop s.at s.bytes.items)

abbrev pub source_faults : MemSource → ℕ
source_faults s = s.faults

-- the most bytes that one read gives
abbrev pub source_most : MemSource → ℕ
source_most s = s.most

-- the next read fails
abbrev pub source_fails : MemSource → Bool
source_fails s = is_planned (next_call s.calls) s.fails.items

abbrev pub sink_held : MemSink → Option (List ℕ)
sink_held s = Some s.bytes.items

abbrev pub sink_faults : MemSink → ℕ
sink_faults s = s.faults

-- the most bytes that one write takes
abbrev pub sink_most : MemSink → ℕ
sink_most s = s.most

-- the next write of a piece fails: it is planned, or there is no room for a piece that has some bytes
abbrev pub sink_fails : MemSink → List ℕ → Bool
sink_fails s piece = is_planned (next_call s.calls) s.fails.items || (nat_eq (length s.bytes.items) s.room && nat_lt 0 (length piece))

-- the numbers of the reads that fail, and how many reads there have been
abbrev pub source_plan : MemSource → List ℕ
source_plan s = s.fails.items

abbrev pub source_calls : MemSource → ℕ
source_calls s = s.calls

-- the numbers of the writes that fail, how many writes there have been, and how many bytes may be held
abbrev pub sink_plan : MemSink → List ℕ
sink_plan s = s.fails.items

abbrev pub sink_calls : MemSink → ℕ
sink_calls s = s.calls

abbrev pub sink_room : MemSink → ℕ
sink_room s = s.room
