-- One line of each part of a trace, as it was read from the input.
use Rattle.std.specs.Prelude.{◌≡◌, ℕ, ◌+◌, ◌≤◌, Bool, true, false, List, [], ◌∷◌, ◌++◌}
use Rattle.std.specs.declared.option.Option.{Option}
use Rattle.std.specs.Io.KnownBytes.{IsAtEnd, prepend_known}
use Rattle.trace_model.specs.declared.notices.Step.{Step}
use Rattle.trace_model.specs.Said.{Ended}
use Rattle.trace_text.specs.declared.body.Body.{Body}
use Rattle.trace_text.specs.declared.body.Taken.{Taken}
use Rattle.trace_text.specs.declared.body.Taken.TheVariants as kinds
use Rattle.trace_text.specs.declared.headers.Sizes.{Sizes}
use Rattle.trace_text.specs.declared.input.Input.{Input}
use Rattle.trace_text.specs.declared.reading.TheConstants.{MOST_BODY_LINES}
use Rattle.trace_text.specs.Judging.{size_shown}
use Rattle.trace_text.specs.State.{IsSound, AreSteps, frame_of, said_in_body, said_with_steps}
use Rattle.trace_text.specs.Progress.{Went}

-- the input that is left: what was read ahead, and what the source still has
abbrev pub unread : Input → Option (List ℕ) → Option (List ℕ)
unread input left = prepend_known input.reader left

-- the header was read
abbrev pub ReadsHeader : Option (List ℕ) → Option (List ℕ) → Sizes → Type 0
ReadsHeader old new sizes = Went old new [] (size_shown sizes ∷ []) 1

-- the body was read with its end, behind the header's line, and its lines are no more than there may be
abbrev pub ReadsBody : Option (List ℕ) → Option (List ℕ) → Body → Body → ℕ → Type 0
ReadsBody old new before after number =
    (count : ℕ) × (count ≤ MOST_BODY_LINES) × Went old new (said_in_body before) (said_in_body after ++ Ended ∷ []) count × (number ≡ 1 + count)

-- the schedule was read
abbrev pub ReadsSchedule : Option (List ℕ) → Option (List ℕ) → Body → List Step → Type 0
ReadsSchedule old new body steps = (count : ℕ) × Went old new (said_with_steps body []) (said_with_steps body steps) count

-- a line of the body was read, or the end
abbrev pub StepsBody : Taken → Option (List ℕ) → Option (List ℕ) → Body → Body → Type 0
StepsBody kinds.Line left rest old new = IsSound new × (frame_of new ≡ frame_of old) × Went left rest (said_in_body old) (said_in_body new) 1
StepsBody kinds.End left rest old new = (new ≡ old) × Went left rest (said_in_body old) (said_in_body old ++ Ended ∷ []) 1

-- a line of the schedule was read, or the end of the input
abbrev pub StepsSchedule : Bool → Option (List ℕ) → Option (List ℕ) → Body → List Step → List Step → Type 0
StepsSchedule true left rest body old new = AreSteps body new × Went left rest (said_with_steps body old) (said_with_steps body new) 1
StepsSchedule false left rest body old new = (new ≡ old) × Went left rest (said_with_steps body old) (said_with_steps body old) 0 × IsAtEnd rest

-- the next line, a good sample's, was taken where it stood in the buffer, whatever the source still has; or nothing was taken
abbrev pub TakesWhole : Bool → Input → Input → Body → Body → Type 0
TakesWhole true old new before after =
    ((left : Option (List ℕ)) → StepsBody kinds.Line (unread old left) (unread new left) before after) × (new.number ≡ old.number + 1)
TakesWhole false old new before after = (new ≡ old) × (after ≡ before)
