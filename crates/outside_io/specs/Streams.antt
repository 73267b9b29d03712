-- What contracts see of the adapters over std's streams.
use Rattle.std.specs.Prelude.{ℕ}
use Rattle.outside_io.specs.declared.streams.StdSource.{StdSource}
use Rattle.outside_io.specs.declared.streams.StdSink.{StdSink}

-- the reader under a source
abbrev pub reader_of : {R : Type 0} → StdSource R → R
reader_of s = s.inner

-- the faults of a source
abbrev pub read_faults : {R : Type 0} → StdSource R → ℕ
read_faults s = s.faults

-- the writer under a sink
abbrev pub writer_of : {W : Type 0} → StdSink W → W
writer_of s = s.inner

-- the faults of a sink
abbrev pub write_faults : {W : Type 0} → StdSink W → ℕ
write_faults s = s.faults
