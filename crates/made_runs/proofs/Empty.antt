-- The first run of a made trace into an empty database: nothing stops it.
use Rattle.std.proofs.Common.{◌≡◌, ◌+◌, ℕ, true, refl, sym, subst, arith}
use Rattle.std.specs.List.{IsDistinct}
use Rattle.std.specs.Str.{bytes_eq}
use Rattle.std.specs.declared.option.Option.{Option}
use Rattle.std.specs.declared.option.Option.TheVariants.{Some}
use Rattle.store_io.specs.Files.{Files, no_files}
use Rattle.trace_model.specs.Recording.{Recording}
use Rattle.trace_model.specs.Streams.{records_in}
use Rattle.database_state.specs.Database.{empty_database}
use Rattle.database_state.specs.Heads.{Head, empty_head}
use Rattle.database_state.specs.Standing.{HaveHead}
use Rattle.database_state.specs.declared.faults.DbFault.{DbFault}
use Rattle.growth_model.specs.Fitting.{KeepsLimits}
use Rattle.run_rounds.specs.Rounds.{reference_record}
use Rattle.dcpid_core.specs.Storing.{is_found_before}
use Rattle.replay_drive.specs.Growing.{StopsAt}
use Rattle.replay_drive.specs.Outcomes.{Leaves}
use Rattle.made_runs.specs.Stopping.{FittingRunsDoNotStop}

-- where there are no files, they have the empty head
have_empty : HaveHead no_files empty_head
have_empty = record {
  latest = record { most = omega arith; here = λ some. absurd (omega (arith, some)); above = λ k more few. refl };
  fresh = λ e. refl;
  sealed = λ some. absurd (omega (arith, some));
}

-- it stops at no part
no_part : FittingRunsDoNotStop → (trace : Recording) (head : Head) (g : Files) (parts : ℕ) (fault : DbFault) → head ≡ empty_head
    → IsDistinct bytes_eq trace.images → KeepsLimits trace.images (records_in trace) (reference_record trace 1 0) empty_head empty_database
    → is_found_before fault ≡ true → StopsAt trace (reference_record trace (head.runs + 1) head.epoch) parts head no_files g fault → ⊥
no_part law trace head g parts fault is distinct keeps before at =
    law trace (reference_record trace 1 0) parts empty_head no_files g fault distinct keeps before
    (subst (λ (h : Head). StopsAt trace (reference_record trace (h.runs + 1) h.epoch) parts h no_files g fault) is at)

-- so no bad file and no want of room is left of it
pub goes_through : FittingRunsDoNotStop → {D : Type 0} (files : D → Option Files) (counts moment : D → ℕ) (left_since : D → ℕ → Files → Type 0)
    (trace : Recording) (head : Head) (old new : D) (fault : DbFault) → head ≡ empty_head → files old ≡ Some no_files
    → IsDistinct bytes_eq trace.images → KeepsLimits trace.images (records_in trace) (reference_record trace 1 0) empty_head empty_database
    → is_found_before fault ≡ true → Leaves files counts moment left_since trace head old new (Some fault) → ⊥
goes_through law files counts moment left_since trace head old new fault is told distinct keeps before leaves =
    let (g, now, at) = leaves.store.cause no_files fault told (subst (λ (h : Head). HaveHead no_files h) (sym is) have_empty) refl before in
    no_part law trace head g leaves.parts fault is distinct keeps before at
