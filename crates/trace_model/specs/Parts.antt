-- The records that end a part of a run, or begin an epoch.
use Rattle.std.specs.Prelude.{ℕ, ◌+◌, Bool, true, false, List, take}
use Rattle.std.specs.List.{count_by}
use Rattle.trace_model.specs.declared.notices.Record.{Record}
use Rattle.trace_model.specs.declared.notices.Record.TheVariants.{Scan, Load, Unload, Exec, Exit, Kernel, Drain, Merge, Epoch}

-- a record that begins a new epoch
abbrev pub begins_epoch : Record → Bool
begins_epoch (Scan pid base length image) = false
begins_epoch (Load pid base length image) = false
begins_epoch (Unload pid base length) = false
begins_epoch (Exec pid base length image) = false
begins_epoch (Exit pid) = false
begins_epoch (Kernel base length image) = false
begins_epoch Drain = false
begins_epoch Merge = false
begins_epoch Epoch = true

-- the epoch after these records, where the first one is given
abbrev pub epoch_after : ℕ → List Record → ℕ
epoch_after first records = first + count_by begins_epoch records

-- a record that ends a part of a run: what was gathered is committed there
abbrev pub ends_part : Record → Bool
ends_part (Scan pid base length image) = false
ends_part (Load pid base length image) = false
ends_part (Unload pid base length) = false
ends_part (Exec pid base length image) = false
ends_part (Exit pid) = false
ends_part (Kernel base length image) = false
ends_part Drain = false
ends_part Merge = true
ends_part Epoch = true

-- the part, from 0, at a moment: after the first records of the trace
abbrev pub part_of : List Record → ℕ → ℕ
part_of records applied = count_by ends_part (take applied records)
