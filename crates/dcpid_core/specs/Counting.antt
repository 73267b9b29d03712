-- What the daemon counts agrees with what the sides tell was taken, and so its advance is the run's.
use Rattle.std.specs.Prelude.{◌≡◌, ℕ, ◌-◌, ◌^◌, ◌<◌, ◌≤◌, min, List, [], ◌∷◌, length, map}
use Rattle.sample_key.specs.Sent.{Sent}
use Rattle.driver_model.specs.Lists.{AllOf}
use Rattle.driver_model.specs.Handover.{FarSide, Given, far_gave_buffer, far_gave_table, far_rang, far_took_buffer, far_took_table, new_far}
use Rattle.trace_model.specs.Streams.{records_in}
use Rattle.lane_side.specs.Plain.{Plain}
use Rattle.run_model.specs.Daemon.{advance, answering, flush_before}
use Rattle.dcpid_core.specs.Flushes.{AnswerIs, IsCounter, flush_took, no_flush}
use Rattle.dcpid_core.specs.Collection.{Collection, FitFrom, rang_if}
use Rattle.run_model.specs.Books.{StandsWell}
use Rattle.dcpid_core.specs.Advancing.{advance_of}
use Rattle.dcpid_core.specs.declared.flushes.Flush.{Flush}
use Rattle.std.specs.declared.option.Option.{Option}

-- The counts of a processor agree with what its side tells, while this value is asked for, or is the next to be: no table batch
-- answers a later one.
pub record Agrees (value : ℕ) (flush : Flush) (far : FarSide) : Type 0 where
  pub first : flush.first ≡ min (length far.first.taken) (2 ^ 64 - 1)
  pub second : flush.second ≡ min (length far.second.taken) (2 ^ 64 - 1)
  pub answer : AnswerIs value flush (answering value far.third.taken)
  pub sent0 : flush.sent0 < 2 ^ 64
  pub sent1 : flush.sent1 < 2 ^ 64
  pub kept : flush.answers ≤ value
  pub behind : AllOf (λ batch. batch.note.answers ≤ value) far.third.taken

-- so it is for each processor
abbrev pub Agree : ℕ → List Flush → List FarSide → Type 0
Agree value [] [] = Unit {0}
Agree value [] (far ∷ fars) = ⊥
Agree value (flush ∷ flushes) [] = ⊥
Agree value (flush ∷ flushes) (far ∷ fars) = Agrees value flush far × Agree value flushes fars

-- the daemon's halves of sides
abbrev pub fars_in : List Plain → List FarSide
fars_in sides = map (λ side. side.far) sides

-- Where its counts agree with the sides, the advance of the daemon is the one of the run's definitions.
abbrev pub AdvancesAsTheRun : Type 0
AdvancesAsTheRun = (daemon : Collection) (sides : List Plain)
    → Agree (flush_before daemon.state.applied) daemon.flushes (fars_in sides)
    → advance_of daemon ≡ advance daemon.pace (records_in daemon.trace) (fars_in sides) daemon.state

-- Counts agree at the start, after each batch that is taken, and from one flush to the next.
pub record CountsAgree : Type 0 where
  pub starts : (applied : ℕ) (given : Option Given)
      → Agrees (flush_before applied) no_flush (new_far given)
  pub took_buffer : (value cell : ℕ) (flush : Flush) (far : FarSide) (batch : Sent)
      → cell ≤ 1 → IsCounter batch.note → Agrees value flush far
      → Agrees value (flush_took value flush cell batch.note)
      (far_gave_buffer (far_took_buffer far cell batch) cell)
  pub took_table : (value turn : ℕ) (flush : Flush) (far : FarSide) (batch : Sent)
      → IsCounter batch.note → batch.note.answers ≤ value → Agrees value flush far
      → Agrees value (flush_took value flush 2 batch.note)
      (far_gave_table (far_took_table far batch turn))
  pub goes_on : (value later : ℕ) (flush : Flush) (far : FarSide)
      → value < later → Agrees value flush far → Agrees later flush far
  pub rang : (value bell tries : ℕ) (flush : Flush) (far : FarSide)
      → Agrees value flush far → Agrees value flush (far_rang far bell tries)

-- After an advance the sides fit the daemon still: they were rung with what it rang. The daemon asks only where it is needed.
abbrev pub SidesFitOn : Type 0
SidesFitOn = (daemon new : Collection) (sides : List Plain)
    → StandsWell daemon.pace (records_in daemon.trace) daemon.state
    → new.trace ≡ daemon.trace → new.pace ≡ daemon.pace
    → new.state.applied ≡ (advance_of daemon).daemon.applied
    → new.state.asking ≡ (advance_of daemon).daemon.asking
    → FitFrom daemon 0 sides → FitFrom new 0 (rang_if (advance_of daemon).ring sides)
