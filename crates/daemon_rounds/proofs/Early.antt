-- A fault that is kept, but for want of memory, came at a part before the last.
use Rattle.std.proofs.Common.{arith, ◌≡◌, ℕ, ◌+◌, ◌≤◌, refl, sym, ◌∙◌, ap, subst, Bool, true, false, if◌then◌else◌, List, Option, Some, None, inl, inr}
use Rattle.std.specs.Prelude.{◌≢◌, ◌&&◌, is_none, slice_get, take}
use Rattle.std.specs.List.{count_by}
use Rattle.std.proofs.lemmas.List.Sums.{sum_by-take-le}
use Rattle.sample_key.specs.declared.losses.Pace.{Pace}
use Rattle.trace_model.specs.Parts.{ends_part, part_of}
use Rattle.trace_model.specs.Recording.{Recording}
use Rattle.trace_model.specs.Streams.{records_in}
use Rattle.trace_model.specs.declared.notices.Record.{Record}
use Rattle.store_io.specs.Files.{Files}
use Rattle.database_state.specs.declared.faults.DbFault.{DbFault}
use Rattle.database_state.specs.declared.faults.DbFault.TheVariants.{Memory}
use Rattle.lane_side.specs.Plain.{Plain}
use Rattle.run_model.specs.Daemon.{Daemon}
use Rattle.run_model.specs.Shares.{last_part}
use Rattle.run_model.specs.declared.advances.Advanced.{Advanced}
use Rattle.run_laws.proofs.Keeping.{count_next}
use Rattle.dcpid_core.specs.Advancing.{Advances, EndsPart, FaultAfter, Outcome, advance_of, commits, ends_next, is_moved}
use Rattle.dcpid_core.specs.Collection.{Collection}
use Rattle.replay_drive.specs.Replaying.{FaultRests}
use Rattle.daemon_rounds.specs.Going.{IsGoing, PollsOn}
use Rattle.daemon_rounds.specs.Knowing.{Knows}
use Rattle.daemon_rounds.specs.Storing.{StopsEarly}

-- a fault other than want of memory was kept before
rested : (o p : Option DbFault) (fault : DbFault) → FaultRests o p → p ≡ Some fault → fault ≢ Memory → o ≡ Some fault
rested (Some first) p fault rests is other = sym rests ∙ is
rested None p fault (inl none) is other = absurd cc
rested None p fault (inr memory) is other = let same : fault ≡ Memory = cc in absurd (other same)

rests_after : (o p : Option DbFault) (answer : Advanced) → FaultAfter o answer p → FaultRests o p
rests_after (Some first) p answer after = after
rests_after None p answer (inl none) = inl none
rests_after None p answer (inr moved) = inr moved.1

-- the same part, and no fault but such
pub early_rests : (d e : Collection) → e.trace ≡ d.trace → e.part ≡ d.part → FaultRests d.failure e.failure → StopsEarly d → StopsEarly e
early_rests d e trace part rests early = λ fault is other.
    subst (λ (t : Recording). e.part + 1 ≤ last_part (records_in t)) (sym trace)
    (subst (λ (n : ℕ). n + 1 ≤ last_part (records_in d.trace)) (sym part) (early fault (rested d.failure e.failure fault rests is other) other))

-- a record that ends a part is followed by one part more
ends_before : (records : List Record) (n : ℕ) (o : Option Record) → slice_get records n ≡ o → ends_next o ≡ true → part_of records n + 1 ≤ last_part records
ends_before records n None there e = absurd cc
ends_before records n (Some notice) there e =
    let next : part_of records (n + 1) ≡ part_of records n + (if ends_part notice then 1 else 0) = count_next ends_part records n notice there in
    let one : ◌≡◌ {A = ℕ} (if ends_part notice then 1 else 0) 1 = ap {B = ℕ} (λ (b : Bool). if b then 1 else 0) e in
    let most : part_of records (n + 1) ≤ last_part records = sum_by-take-le (λ r. if ends_part r then 1 else 0) records (n + 1) in
    omega (arith, next, one, most)

last_two : (a b c : Bool) → (a && b && c) ≡ true → (b ≡ true) × (c ≡ true)
last_two false b c e = absurd cc
last_two true false c e = absurd cc
last_two true true false e = absurd cc
last_two true true true e = (refl, refl)

is_there_none : (o : Option DbFault) → is_none o ≡ true → o ≡ None
is_there_none None e = refl
is_there_none (Some fault) e = absurd cc

-- where a part is to be committed there is another
commits_early : (pace : Pace) (trace : Recording) (run first_epoch : ℕ) (until : Daemon) (d : Collection) (sides : List Plain) (answer : Advanced)
    → Knows pace trace run first_epoch until d sides → commits d answer ≡ true → d.part + 1 ≤ last_part (records_in d.trace)
commits_early pace trace run first_epoch until d sides answer knows commit =
    let two = last_two (is_moved answer) (is_none d.failure) (ends_next (slice_get (records_in d.trace) d.state.applied)) commit in
    let part : d.part ≡ part_of (records_in d.trace) d.state.applied =
    knows.parts.part (is_there_none d.failure two.0) ∙ ap (λ (t : Recording). part_of (records_in t) d.state.applied) (sym knows.trace_is) in
    omega (arith, part, ends_before (records_in d.trace) d.state.applied (slice_get (records_in d.trace) d.state.applied) refl two.1)

by_outcome : {D : Type 0} (files : D → Option Files) (faults moment : D → ℕ) (left : D → ℕ → Files → Type 0) (d e : Collection) (old new : D) (b : Bool) (o : Option DbFault)
    → (b ≡ true → d.part + 1 ≤ last_part (records_in d.trace)) → e.failure ≡ o → Outcome files faults moment left b d (advance_of d) old e new → StopsEarly d → StopsEarly e
by_outcome files faults moment left d e old new false o more is h early =
    early_rests d e (ap (λ (z : Collection). z.trace) h.moved) (ap (λ (z : Collection). z.part) h.moved) (rests_after d.failure e.failure (advance_of d).answer h.fault) early
by_outcome files faults moment left d e old new true None more is h early = λ fault some other. absurd cc
by_outcome {D} files faults moment left d e old new true (Some fault) more is h early = λ other some kept.
    let ends = subst (λ (z : Option DbFault). EndsPart files faults moment left d (advance_of d) old z e new) is h in
    subst (λ (t : Recording). e.part + 1 ≤ last_part (records_in t)) (sym (ap (λ (z : Collection). z.trace) ends.0))
    (subst (λ (n : ℕ). n + 1 ≤ last_part (records_in d.trace)) (sym (ap (λ (z : Collection). z.part) ends.0)) (more refl))

pub advance_early : {D : Type 0} (files : D → Option Files) (faults moment : D → ℕ) (left : D → ℕ → Files → Type 0) (d e : Collection) (sides : List Plain) (old new : D) (answer : Advanced)
    → IsGoing d sides → Advances files faults moment left (advance_of d) d old answer e new → StopsEarly d → StopsEarly e
advance_early files faults moment left d e sides old new answer going h =
    by_outcome files faults moment left d e old new (commits d (advance_of d).answer) e.failure
    (λ commit. commits_early going.0 going.1 going.2 going.3 going.4 d sides (advance_of d).answer going.5 commit) refl h.outcome

pub polls_early : (d e : Collection) (sides after : List Plain) → IsGoing d sides → PollsOn d sides e after → StopsEarly d → StopsEarly e
polls_early d e sides after going polls =
    let polled = polls going.0 going.1 going.2 going.3 going.4 going.5 in
    early_rests d e (polled.knows.trace_is ∙ sym going.5.trace_is) polled.leaves.part polled.leaves.fault
