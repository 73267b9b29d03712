-- What is judged of a header and of a line of the schedule.
use Rattle.std.specs.Prelude.{◌≡◌, ℕ, List}
use Rattle.std.specs.declared.result.Result.{Result}
use Rattle.std.specs.declared.result.Result.TheVariants.{Ok, Err}
use Rattle.trace_model.specs.declared.reasons.TraceWhy.{TraceWhy}
use Rattle.trace_model.specs.declared.notices.Step.{Step}
use Rattle.trace_model.specs.Grammar.{verdict, verdict_on}
use Rattle.trace_model.specs.Said.{Said}
use Rattle.trace_model.specs.Recording.{step_said}
use Rattle.trace_text.specs.declared.headers.Sizes.{Sizes}
use Rattle.trace_text.specs.declared.body.Body.{Body}
use Rattle.trace_text.specs.declared.refusals.LineRefusal.{LineRefusal}
use Rattle.trace_text.specs.Judging.{size_shown}
use Rattle.trace_text.specs.Progress.{IsRefusal, SaysNext}
use Rattle.trace_text.specs.State.{AreSteps, said_with_steps}

-- what is judged of a header
abbrev pub IsSized : Result Sizes TraceWhy → Result (Said ℕ) TraceWhy → Type 0
IsSized (Ok sizes) judged = judged ≡ Ok (size_shown sizes)
IsSized (Err why) judged = judged ≡ Err why

abbrev pub IsJudgedStep : Result Step TraceWhy → Result (Said ℕ) TraceWhy → Type 0
IsJudgedStep (Ok step) judged = judged ≡ Ok (step_said step)
IsJudgedStep (Err why) judged = judged ≡ Err why

-- what is judged of a line of the schedule, behind a body and the steps before it
abbrev pub JudgesStep : Body → List Step → Said (List ℕ) → Result Step TraceWhy → Type 0
JudgesStep body steps raw result = IsJudgedStep result (verdict_on (said_with_steps body steps) raw)

-- a line of the schedule was taken
abbrev pub TakesStep : Body → List Step → List ℕ → List Step → Type 0
TakesStep body old line new = AreSteps body new × SaysNext (said_with_steps body old) line (said_with_steps body new)

-- a line of the schedule was refused
abbrev pub RefusesStep : Body → List Step → List ℕ → LineRefusal → Type 0
RefusesStep body steps line refusal = IsRefusal (verdict (said_with_steps body steps) line) refusal
