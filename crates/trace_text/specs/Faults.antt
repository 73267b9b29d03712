-- The first reason that the lines before it give against a line, by what the reader counts.
use Rattle.std.specs.Prelude.{ℕ, ◌||◌, nat_le, Bool, not, if◌then◌else◌}
use Rattle.std.specs.declared.option.Option.{Option}
use Rattle.std.specs.declared.option.Option.TheVariants.{Some, None}
use Rattle.sample_key.specs.declared.limits.TheConstants.{MOST_SAMPLES}
use Rattle.trace_model.specs.declared.limits.TheConstants.{MOST_PARTS, MOST_RECORDS, MOST_STEPS}
use Rattle.trace_model.specs.declared.reasons.TraceWhy.{TraceWhy}
use Rattle.trace_model.specs.declared.reasons.TraceWhy.TheVariants.{NoSuchCpu, ScanTooLate, TooManyRecords, TooManySamples}
use Rattle.trace_model.specs.declared.notices.Step.{Step}
use Rattle.trace_model.specs.declared.notices.Step.TheVariants.{Lane, Poll, Advance}

-- against a sample of a processor
abbrev pub sample_fault : ℕ → ℕ → ℕ → Option TraceWhy
sample_fault cpus samples cpu = if nat_le cpus cpu then Some NoSuchCpu else (if nat_le MOST_SAMPLES samples then Some TooManySamples else None)

-- against a record that ends no part
abbrev pub record_fault : ℕ → Option TraceWhy
record_fault records = if nat_le MOST_RECORDS records then Some TooManyRecords else None

-- against a scan
abbrev pub scan_fault : Bool → ℕ → Option TraceWhy
scan_fault scans records = if not scans then Some ScanTooLate else record_fault records

-- against a record that ends a part
abbrev pub part_fault : ℕ → ℕ → Option TraceWhy
part_fault records parts = if nat_le MOST_RECORDS records || nat_le MOST_PARTS parts then Some TooManyRecords else None

-- against one step more
abbrev pub number_fault : ℕ → Option TraceWhy
number_fault steps = if nat_le MOST_STEPS steps then Some TooManyRecords else None

-- against a step of a processor
abbrev pub cpu_fault : ℕ → ℕ → ℕ → Option TraceWhy
cpu_fault cpus steps cpu = if nat_le cpus cpu then Some NoSuchCpu else number_fault steps

-- against a step, by the processors that there are and the steps before it
abbrev pub step_fault : ℕ → ℕ → Step → Option TraceWhy
step_fault cpus steps (Lane cpu) = cpu_fault cpus steps cpu
step_fault cpus steps (Poll cpu cell) = cpu_fault cpus steps cpu
step_fault cpus steps Advance = number_fault steps
