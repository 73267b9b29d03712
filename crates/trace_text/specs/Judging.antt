-- What is read of a line whose words are in order.
use Rattle.std.specs.Prelude.{ℕ}
use Rattle.trace_model.specs.Said.{Said, LongHeader}
use Rattle.trace_text.specs.declared.headers.Sizes.{Sizes}

abbrev pub size_shown : Sizes → Said ℕ
size_shown s = LongHeader s.cpus s.buckets s.buffer
