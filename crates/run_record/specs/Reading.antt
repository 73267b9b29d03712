-- Reading a segment from left to right: each part is read by a function of its own, and these are what the functions give.
use Rattle.std.specs.Prelude.{ℕ, ◌-◌, ◌^◌, ◌==◌, Bool, List, [], map, Result, Ok}
use Rattle.sample_key.specs.Counted.{Counted}
use Rattle.sample_key.specs.Headers.{Header}
use Rattle.var_bytes.specs.Forms.{repeat, between}
use Rattle.var_bytes.specs.Reading.{field_at, take_form, ended, ◌>>=◌}
use Rattle.database_model.specs.Runs.{Drained, Segment}
use Rattle.database_model.specs.SegmentForm.{word32, word64, flagged_entry, drain, processors}

-- the entries of a drain, and their flags
unfoldable pub entries_at : ℕ → List ℕ → ℕ → Result (List Counted × List Bool × ℕ) ℕ
entries_at count bytes at = do
  entries ← take_form (repeat (λ before. flagged_entry) count []) bytes at
  Ok (map (λ e. e.0) entries.0, map (λ e. e.1) entries.0, entries.1)

-- the header of a drain's batch
unfoldable pub note_at : List ℕ → ℕ → Result (Header × ℕ) ℕ
note_at bytes at = do
  cpu ← field_at (between 0 15) bytes at
  cell ← field_at (between 0 2) bytes cpu.1
  number ← field_at (between 1 (2 ^ 64 - 1)) bytes cell.1
  upto ← field_at (between 0 2000000) bytes number.1
  answers ← field_at word64 bytes upto.1
  sent0 ← field_at word64 bytes answers.1
  sent1 ← field_at word64 bytes sent0.1
  Ok (record { cpu = cpu.0; cell = cell.0; number = number.0; upto = upto.0; answers = answers.0; sent0 = sent0.0; sent1 = sent1.0 }, sent1.1)

-- a drain
unfoldable pub drain_at : List ℕ → ℕ → Result (Drained × ℕ) ℕ
drain_at bytes at = do
  position ← field_at (between 0 65536) bytes at
  epoch ← field_at word32 bytes position.1
  note ← note_at bytes epoch.1
  count ← field_at (between 0 2000000) bytes note.1
  entries ← entries_at count.0 bytes count.1
  Ok (record { at = position.0; epoch = epoch.0; batch = record { note = note.0; entries = entries.0 }; known = entries.1 }, entries.2)

-- a segment that ends with the bytes
unfoldable pub segment_at : List ℕ → Result Segment ℕ
segment_at bytes = do
  format ← field_at (between 1 1) bytes 0
  run ← field_at (between 1 (2 ^ 32 - 1)) bytes format.1
  part ← field_at (between 0 1024) bytes run.1
  last ← field_at (between 0 1) bytes part.1
  first_epoch ← field_at word32 bytes last.1
  count ← field_at word64 bytes first_epoch.1
  drains ← take_form (repeat (λ before. drain) count.0 []) bytes count.1
  losses ← take_form (processors (last.0 == 1)) bytes drains.1
  ended bytes (record { run = run.0; part = part.0; last = last.0 == 1; first_epoch = first_epoch.0; drains = drains.0; losses = losses.0 }, losses.1)
