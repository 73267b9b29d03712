-- When a trace is refused, and for what.
use Rattle.std.specs.Prelude.{◌≡◌, ℕ, ◌≤◌, List, IfSome}
use Rattle.std.specs.declared.option.Option.{Option}
use Rattle.std.specs.declared.result.Result.{Result}
use Rattle.std.specs.declared.result.Result.TheVariants.{Ok, Err}
use Rattle.outside_io.specs.Causes.{Rose}
use Rattle.line_reader.specs.declared.faults.LineFault.{LineFault}
use Rattle.line_reader.specs.declared.faults.LineFault.TheVariants as faults
use Rattle.trace_model.specs.declared.reasons.TraceWhy.{TraceWhy}
use Rattle.trace_model.specs.Said.{Said}
use Rattle.trace_model.specs.Grammar.{FirstBad}
use Rattle.trace_text.specs.declared.refusals.LineRefusal.{LineRefusal}
use Rattle.trace_text.specs.declared.refusals.LineRefusal.TheVariants as lines
use Rattle.trace_text.specs.declared.refusals.TraceRefusal.{TraceRefusal}
use Rattle.trace_text.specs.declared.refusals.TraceRefusal.TheVariants.{Bad, ReadFault, Memory}
use Rattle.trace_text.specs.Progress.{Stops}

-- a fault of a line is passed on as it is
abbrev pub IsOfLineFault : LineFault → TraceRefusal → Type 0
IsOfLineFault faults.ReadFault refusal = refusal ≡ ReadFault
IsOfLineFault faults.Memory refusal = refusal ≡ Memory

-- the count of faults rose where a read failed, and never falls; else it stays, so that no fault is passed over
abbrev pub TellsFaults : {T : Type 0} → ℕ → ℕ → Result T TraceRefusal → Type 0
TellsFaults before now (Ok value) = now ≡ before
TellsFaults before now (Err ReadFault) = (before ≤ now) × Rose before now
TellsFaults before now (Err (Bad line why)) = now ≡ before
TellsFaults before now (Err Memory) = now ≡ before

-- a refusal of a line, at its number
abbrev pub IsOfLineRefusal : ℕ → LineRefusal → TraceRefusal → Type 0
IsOfLineRefusal number (lines.Bad why) refusal = refusal ≡ Bad number why
IsOfLineRefusal number lines.Memory refusal = refusal ≡ Memory

-- no line is refused here
abbrev pub IsLineFaultOnly : {T : Type 0} → Result T TraceRefusal → Type 0
IsLineFaultOnly (Ok value) = Unit {0}
IsLineFaultOnly (Err ReadFault) = Unit {0}
IsLineFaultOnly (Err (Bad line why)) = ⊥
IsLineFaultOnly (Err Memory) = Unit {0}

-- what is said of a bad line that is answered, by its number and its reason; nothing is said of other answers
abbrev pub IfBad : (ℕ → TraceWhy → Type 0) → TraceRefusal → Type 0
IfBad says (Bad line why) = says line why
IfBad says ReadFault = Unit {0}
IfBad says Memory = Unit {0}

abbrev pub OnBad : {T : Type 0} → (ℕ → TraceWhy → Type 0) → Result T TraceRefusal → Type 0
OnBad says (Ok value) = Unit {0}
OnBad says (Err refusal) = IfBad says refusal

-- where the reading stops at a bad line: behind what was said, and behind so many lines
abbrev pub HaltsBy : Option (List ℕ) → List (Said ℕ) → ℕ → TraceRefusal → Type 0
HaltsBy old before count refusal = IfBad (Stops old before count) refusal

abbrev pub Halts : {T : Type 0} → Option (List ℕ) → List (Said ℕ) → ℕ → Result T TraceRefusal → Type 0
Halts old before count result = OnBad (Stops old before count) result

-- a bad line that is answered is no later than this one
abbrev pub HaltsWithinBy : ℕ → TraceRefusal → Type 0
HaltsWithinBy last refusal = IfBad (λ line why. line ≤ last) refusal

abbrev pub HaltsWithin : {T : Type 0} → ℕ → Result T TraceRefusal → Type 0
HaltsWithin last result = OnBad (λ line why. line ≤ last) result

-- a line is the first bad one of the input, for its first reason
abbrev pub IsFirstBad : Option (List ℕ) → ℕ → TraceWhy → Type 0
IsFirstBad input line why = IfSome input (λ bytes. FirstBad bytes line why)

-- a bad line that is answered is the first one, with its first reason
abbrev pub IsFirstBadBy : Option (List ℕ) → TraceRefusal → Type 0
IsFirstBadBy input refusal = IfBad (IsFirstBad input) refusal

abbrev pub IsFirstBadOf : {T : Type 0} → Option (List ℕ) → Result T TraceRefusal → Type 0
IsFirstBadOf input result = OnBad (IsFirstBad input) result
