-- What contracts see of the source and the sink in memory.
use Rattle.std.specs.Prelude.{ℕ, ◌+◌, ◌-◌, ◌^◌, ◌<◌, ◌⊎◌, min, List, drop, vec_len, vec_capacity, Contains}
use Rattle.std.specs.declared.option.Option.{Option}
use Rattle.std.specs.declared.option.Option.TheVariants.{Some}
use Rattle.outside_io.specs.declared.memory.MemSource.{MemSource}
use Rattle.outside_io.specs.declared.memory.MemSink.{MemSink}

-- the bytes that a source has left
abbrev pub rest_of : MemSource → List ℕ
rest_of s = drop s.bytes.pos s.bytes.inner.items

-- the same, as every source tells it
abbrev pub left_in : MemSource → Option (List ℕ)
left_in s = Some (rest_of s)

-- the calls of a source, from 1, that are to fail
abbrev pub source_fails : MemSource → List ℕ
source_fails s = s.fails.calls

-- the calls that a source had
abbrev pub source_calls : MemSource → ℕ
source_calls s = s.calls

-- the faults of a source
abbrev pub source_faults : MemSource → ℕ
source_faults s = s.faults

-- the bytes that a sink was given
abbrev pub bytes_of : MemSink → List ℕ
bytes_of s = s.written.items

-- the same, as every sink tells it
abbrev pub written_in : MemSink → Option (List ℕ)
written_in s = Some (bytes_of s)

-- the calls of a sink, from 1, that are to fail
abbrev pub sink_fails : MemSink → List ℕ
sink_fails s = s.fails.calls

-- the calls that a sink had
abbrev pub sink_calls : MemSink → ℕ
sink_calls s = s.calls

-- the faults of a sink
abbrev pub sink_faults : MemSink → ℕ
sink_faults s = s.faults

-- a sink must grow to take n more bytes
abbrev pub MustGrow : MemSink → ℕ → Type 0
MustGrow s n = vec_capacity s.written < vec_len s.written + n

-- a call that is to write n bytes may fail: it is listed, or the sink must grow
abbrev pub MayFail : MemSink → ℕ → ℕ → Type 0
MayFail s call n = Contains (sink_fails s) call ⊎ MustGrow s n

-- the number of the call that comes after n calls; it stops at the greatest u64
abbrev pub next_call : ℕ → ℕ
next_call n = min (n + 1) (2 ^ 64 - 1)
