-- What the reader asks of a record before a scan.
use Rattle.std.specs.Prelude.{Bool, []}
use Rattle.trace_model.specs.declared.notices.Record.{Record}
use Rattle.trace_model.specs.Said.{may_precede_scan}
use Rattle.trace_model.specs.Recording.{record_said}

-- a scan may stand behind this record
abbrev pub record_may_precede_scan : Record → Bool
record_may_precede_scan notice = may_precede_scan (record_said [] notice)
