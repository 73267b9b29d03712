-- What an input is: a trace, or refused.
use Rattle.std.specs.Prelude.{◌≡◌, ℕ, List}
use Rattle.trace_model.specs.declared.reasons.TraceWhy.{TraceWhy}
use Rattle.trace_model.specs.Grammar.{FirstBad}
use Rattle.trace_model.specs.Recording.{Recording, Reads, trace_text}

-- the bytes read as a trace
abbrev pub IsTrace : List ℕ → Type 0
IsTrace bytes = (r : Recording) × Reads bytes r

-- the bytes have a first bad line, with a first reason
abbrev pub IsRefused : List ℕ → Type 0
IsRefused bytes = (number : ℕ) × (why : TraceWhy) × FirstBad bytes number why

-- the bytes read as one trace at most
abbrev pub HasOneTrace : List ℕ → Type 0
HasOneTrace bytes = (first second : Recording) → Reads bytes first → Reads bytes second → first ≡ second

-- the bytes have one first bad line at most, and one first reason
abbrev pub HasOneRefusal : List ℕ → Type 0
HasOneRefusal bytes = (first second : ℕ) (why other : TraceWhy) → FirstBad bytes first why → FirstBad bytes second other → (first ≡ second) × (why ≡ other)

-- the text of a trace reads as no other
abbrev pub ReadsAlone : Recording → Type 0
ReadsAlone r = (other : Recording) → Reads (trace_text r) other → other ≡ r
