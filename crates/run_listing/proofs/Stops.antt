-- Why reading stops at a segment: it is the first that is bad or out of order.
use Rattle.std.proofs.Common.{◌≡◌, ℕ, ◌+◌, ◌<◌, List, Some, ap, sym, ◌∙◌}
use Rattle.store_io.specs.Files.{Files}
use Rattle.store_io.specs.declared.file_refs.FileRef.TheVariants as named
use Rattle.database_model.specs.Runs.{Segment}
use Rattle.database_state.specs.Standing.{segments_to}
use Rattle.database_state.specs.declared.faults.DbFault.{DbFault}
use Rattle.database_state.specs.declared.faults.DbFault.TheVariants.{StoreFault, Bad, Full, Memory}
use Rattle.epoch_store.specs.Reading.{IsUnread}
use Rattle.dcpiprof_report.specs.Reading.{IsStopped}
use Rattle.run_listing.specs.Orders.{first_bad, follows}
use Rattle.run_listing.specs.Steps.{IsMisplaced, reached_by}
use Rattle.run_listing.specs.declared.joins.JoinedRun.{JoinedRun}
use Rattle.run_listing.proofs.Progress.{Progress, part_in, bad_next, misplaced_next}

-- the next segment was not read
pub unread : (files : Files) (n all : ℕ) (text : List ℕ) (run : JoinedRun) (fault : DbFault) → n < all → Progress files n text run → IsUnread (named.Segment (n + 1)) (part_in files (n + 1)) fault
    → IsStopped (first_bad (segments_to all files)) fault
unread files n all text run StoreFault more before h = tt
unread files n all text run (Bad other) more before h = bad_next files n all text run more before h.1 ∙ ap Some (sym h.0)
unread files n all text run (Full what held added) more before h = absurd h
unread files n all text run Memory more before h = tt

-- the next segment was not added
pub not_added : (files : Files) (n all : ℕ) (text : List ℕ) (run : JoinedRun) (s : Segment) (fault : DbFault) → n < all → Progress files n text run → part_in files (n + 1) ≡ Some s
    → IsMisplaced (n + 1) (follows (reached_by run) s) fault → IsStopped (first_bad (segments_to all files)) fault
not_added files n all text run s StoreFault more before told h = absurd h
not_added files n all text run s (Bad other) more before told h = misplaced_next files n all text run s more before told h.1 ∙ ap Some (sym h.0)
not_added files n all text run s (Full what held added) more before told h = absurd h
not_added files n all text run s Memory more before told h = tt
