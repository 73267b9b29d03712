-- What is added to a database at a place, and how often drains count it.
use Rattle.std.specs.Prelude.{◌≡◌, ℕ, List, count_by}
use Rattle.sample_key.specs.Events.{code_of}
use Rattle.trace_model.specs.Counting.{Spot, Known, Unknown, same_spot, spots_in}
use Rattle.trace_model.specs.Recording.{Recording}
use Rattle.trace_model.specs.Streams.{records_in}
use Rattle.trace_model.specs.declared.notices.Record.{Record}
use Rattle.database_model.specs.Runs.{Drained, Recorded}
use Rattle.run_exact.specs.Exact.{drained_at, CountsPlainly}
use Rattle.growth_model.specs.Additions.{Additions, additions_of}

-- what is added at a place
abbrev pub added_at : Additions → Spot → ℕ
added_at added (Known epoch image event offset) = added.known epoch image (code_of event) offset
added_at added (Unknown epoch event pc) = added.unknown epoch (code_of event) pc

-- What drains add at a place is how often they count it.
abbrev pub AddsWhatIsDrained : Type 0
AddsWhatIsDrained = (images : List (List ℕ)) (records : List Record) (drains : List Drained)
    (spot : Spot) → added_at (additions_of images records drains) spot
    ≡ drained_at spot images records drains

-- A record that counts plainly adds at each place as much as samples of the trace lie there.
abbrev pub PlainRecordsAddPlainly : Type 0
PlainRecordsAddPlainly = (trace : Recording) (kept : Recorded) → CountsPlainly trace kept
    → (spot : Spot) → added_at (additions_of trace.images (records_in trace) kept.drains) spot
    ≡ count_by (same_spot spot) (spots_in trace kept.first_epoch)
