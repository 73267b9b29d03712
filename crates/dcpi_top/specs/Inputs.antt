-- What is said of the input, where its bytes are told: a trace, a symbol list, or a first bad line.
use Rattle.std.specs.Prelude.{ℕ, List, IfSome}
use Rattle.std.specs.declared.option.Option.{Option}
use Rattle.std.specs.declared.option.Option.TheVariants.{Some, None}
use Rattle.trace_model.specs.declared.reasons.TraceWhy.{TraceWhy}
use Rattle.trace_model.specs.Grammar.{FirstBad}
use Rattle.trace_model.specs.Recording.{Recording, Reads}
use Rattle.symbol_ranges.specs.declared.symbols.Symbol.{Symbol}
use Rattle.symbol_ranges.specs.declared.refusals.SymbolWhy.{SymbolWhy}
use Rattle.symbol_ranges.specs.Lines as symbols
use Rattle.dcpi_top.specs.Streams.{Stream}

-- the input reads as this trace, where its bytes are told
abbrev pub ReadsAs : Stream → Recording → Type 0
ReadsAs input recording = IfSome input.old (λ bytes. Reads bytes recording)

-- the line is its first bad one, and this is the first reason that applies to it
abbrev pub IsFirstBadIn : Stream → ℕ → TraceWhy → Type 0
IsFirstBadIn input line why = IfSome input.old (λ bytes. FirstBad bytes line why)

-- the input reads as this symbol list
abbrev pub ReadsAsSymbols : Stream → List Symbol → Type 0
ReadsAsSymbols input list = IfSome input.old (λ bytes. symbols.Reads bytes list)

-- the line is the first bad one of a symbol list
abbrev pub IsFirstBadSymbol : Stream → ℕ → SymbolWhy → Type 0
IsFirstBadSymbol input line why = IfSome input.old (λ bytes. symbols.FirstBad bytes line why)

-- the object tells something of which P holds
abbrev pub IsTold : {A : Type 0} → Option A → (A → Type 0) → Type 0
IsTold None P = ⊥
IsTold (Some value) P = P value

-- the bytes of the input are told, and read as this trace
abbrev pub IsToldTrace : Stream → Recording → Type 0
IsToldTrace input recording = IsTold input.old (λ bytes. Reads bytes recording)

-- they are told, and this is their first bad line
abbrev pub IsToldBad : Stream → ℕ → TraceWhy → Type 0
IsToldBad input line why = IsTold input.old (λ bytes. FirstBad bytes line why)

-- they are told, and read as this symbol list
abbrev pub IsToldList : Stream → List Symbol → Type 0
IsToldList input list = IsTold input.old (λ bytes. symbols.Reads bytes list)

-- they are told, and this is the first bad line of a symbol list
abbrev pub IsToldBadSymbol : Stream → ℕ → SymbolWhy → Type 0
IsToldBadSymbol input line why = IsTold input.old (λ bytes. symbols.FirstBad bytes line why)
