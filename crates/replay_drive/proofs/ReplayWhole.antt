-- A replay from its start to its end is the run of its trace.
use Rattle.std.proofs.Common.{◌≡◌, sym, ◌∙◌, ap, subst, ℕ, ◌+◌, List, [], ◌++◌, Option, append-nil}
use Rattle.sample_key.specs.declared.losses.Pace.TheVariants.{Free}
use Rattle.trace_model.specs.Recording.{Recording}
use Rattle.trace_model.specs.declared.notices.Step.{Step}
use Rattle.driver_model.specs.declared.plans.Stats.{Stats}
use Rattle.database_model.specs.Runs.{Recorded}
use Rattle.store_io.specs.Files.{Files}
use Rattle.database_state.specs.Heads.{Head}
use Rattle.database_state.specs.declared.faults.DbFault.{DbFault}
use Rattle.run_model.specs.Running.{System, record_of, reference_run, round}
use Rattle.run_model.specs.Validity.{IsValidRun, StatisticsAgree}
use Rattle.run_laws.specs.Laws.{IsFit, run_so_far}
use Rattle.run_rounds.specs.Rounds.{RunsEndWell, reference_record}
use Rattle.dcpid_core.specs.declared.outcomes.Outcome.{Outcome}
use Rattle.replay_drive.specs.Outcomes.{IsReplayOf, Leaves, LeavesParts}
use Rattle.replay_drive.specs.Replaying.{HasTaken, IsStored, StoresSteps, TakesSteps, repeated}
use Rattle.replay_drive.specs.Ending.{AnswersRun, HasEnded, IsAtStart}
use Rattle.replay_drive.specs.declared.replaying.TheConstants.{MOST_ROUNDS}
use Rattle.replay_drive.specs.declared.replays.Replay.{Replay}
use Rattle.replay_drive.proofs.RunWhole.{enough, run_is}
use Rattle.replay_drive.proofs.Started.{stored_new}
use Rattle.std.specs.Prelude.{map}

-- all steps: the schedule, and then more rounds than are needed
abbrev pub all_steps : Recording → List Step
all_steps trace = trace.schedule ++ repeated MOST_ROUNDS (round trace)

-- the run after them is the run of the trace
pub whole_run : RunsEndWell → (trace : Recording) (first_epoch : ℕ) → IsFit trace → run_so_far Free trace first_epoch (all_steps trace) ≡ reference_run Free trace first_epoch
whole_run law trace first_epoch fit = run_is trace first_epoch MOST_ROUNDS (enough trace fit) (law trace 0 first_epoch fit).finished

-- the schedule was taken
pub schedule_taken : (trace : Recording) (head : Head) (before after : Replay) (steps : List Step) → steps ≡ trace.schedule → IsAtStart trace head before → TakesSteps before after steps
    → HasTaken trace (head.runs + 1) head.epoch trace.schedule after
schedule_taken trace head before after steps are begun takes =
    subst (λ (z : List Step). HasTaken trace (head.runs + 1) head.epoch z after) are (takes trace (head.runs + 1) head.epoch [] begun.taken)

-- and the rounds
pub rounds_taken : RunsEndWell → (trace : Recording) (head : Head) (before after : Replay) (steps : List Step) → steps ≡ round trace → HasTaken trace (head.runs + 1) head.epoch trace.schedule before
    → TakesSteps before after (repeated MOST_ROUNDS steps) → HasEnded trace (head.runs + 1) head.epoch (all_steps trace) after
rounds_taken law trace head before after steps are begun takes =
    let taken : HasTaken trace (head.runs + 1) head.epoch (all_steps trace) after =
    subst (λ (z : List Step). HasTaken trace (head.runs + 1) head.epoch (trace.schedule ++ repeated MOST_ROUNDS z) after) are (takes trace (head.runs + 1) head.epoch trace.schedule begun) in
    record {
      taken = taken;
      finished = taken.finished ∙ ap (λ (s : System). s.daemon.finished) (whole_run law trace head.epoch taken.fit) ∙ (law trace 0 head.epoch taken.fit).finished;
    }

-- what they leave of the store
pub all_stored : {D : Type 0} (files : D → Option Files) (faults moment : D → ℕ) (left : D → ℕ → Files → Type 0) (trace : Recording) (head : Head) (r0 r1 r2 : Replay) (s0 s1 s2 : D) (steps once : List Step)
    → steps ≡ trace.schedule → once ≡ round trace → IsAtStart trace head r0 → HasTaken trace (head.runs + 1) head.epoch trace.schedule r1
    → StoresSteps files faults moment left r0 r1 s0 s1 steps → StoresSteps files faults moment left r1 r2 s1 s2 (repeated MOST_ROUNDS once)
    → IsStored files faults moment left trace (head.runs + 1) head.epoch (all_steps trace) head s0 s2 r2
all_stored {D} files faults moment left trace head r0 r1 r2 s0 s1 s2 steps once are is begun taken first then =
    let rest = repeated MOST_ROUNDS (round trace) in
    let runs : StoresSteps files faults moment left r0 r1 s0 s1 trace.schedule = subst (λ (z : List Step). StoresSteps files faults moment left r0 r1 s0 s1 z) are first in
    let more : StoresSteps files faults moment left r1 r2 s1 s2 rest = subst (λ (z : List Step). StoresSteps files faults moment left r1 r2 s1 s2 (repeated MOST_ROUNDS z)) is then in
    let mid : IsStored files faults moment left trace (head.runs + 1) head.epoch (all_steps trace) head s0 s1 r1 =
    runs trace (head.runs + 1) head.epoch [] rest head s0 begun.taken (stored_new files faults moment left trace head (all_steps trace) s0 r0 begun.daemon) in
    let none : trace.schedule ++ (rest ++ []) ≡ all_steps trace = ap {B = List Step} (λ z. trace.schedule ++ z) (append-nil rest) in
    subst (λ (z : List Step). IsStored files faults moment left trace (head.runs + 1) head.epoch z head s0 s2 r2) none
    (more trace (head.runs + 1) head.epoch trace.schedule [] head s0 taken
    (subst (λ (z : List Step). IsStored files faults moment left trace (head.runs + 1) head.epoch z head s0 s1 r1) (sym none) mid))

-- the outcome is that of the run of the trace
pub outcome_is : RunsEndWell → (trace : Recording) (head : Head) (replay : Replay) (outcome : Outcome) → HasEnded trace (head.runs + 1) head.epoch (all_steps trace) replay → AnswersRun replay outcome
    → IsReplayOf trace head outcome
outcome_is law trace head replay outcome ended answers =
    let mine = answers trace (head.runs + 1) head.epoch (all_steps trace) ended in
    let whole = whole_run law trace head.epoch ended.taken.fit in
    let well = law trace (head.runs + 1) head.epoch ended.taken.fit in
    let kept : outcome.kept ≡ reference_record trace (head.runs + 1) head.epoch = mine.kept ∙ ap (λ (s : System). record_of (head.runs + 1) head.epoch s) whole in
    let stats = mine.stats ∙ ap (λ (s : System). map (λ p. p.driver.stats) s.processors) whole in
    record {
      kept = kept;
      stats = stats;
      valid = subst (λ (z : Recorded). IsValidRun Free trace z) (sym kept) well.valid;
      agree = subst (λ (z : Recorded). StatisticsAgree trace z outcome.stats.items) (sym kept)
          (subst (λ (z : List Stats). StatisticsAgree trace (reference_record trace (head.runs + 1) head.epoch) z) (sym stats) well.agree);
    }

-- and so is what is left
pub leaves_whole : {D : Type 0} (files : D → Option Files) (faults moment : D → ℕ) (left : D → ℕ → Files → Type 0) → RunsEndWell → (trace : Recording) (head : Head) (start after : D) (failure : Option DbFault) → IsFit trace
    → LeavesParts files faults moment left trace (record_of (head.runs + 1) head.epoch (run_so_far Free trace head.epoch (all_steps trace))) head start after failure
    → Leaves files faults moment left trace head start after failure
leaves_whole files faults moment left law trace head start after failure fit leaves =
    subst (λ (s : System). LeavesParts files faults moment left trace (record_of (head.runs + 1) head.epoch s) head start after failure) (whole_run law trace head.epoch fit) leaves
