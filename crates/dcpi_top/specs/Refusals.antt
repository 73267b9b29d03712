-- Why a command gives no text, and the status of each reason.
use Rattle.std.specs.Prelude.{◌≡◌, ℕ}
use Rattle.std.specs.declared.option.Option.{Option}
use Rattle.std.specs.declared.option.Option.TheVariants.{Some, None}
use Rattle.std.specs.declared.result.Result.{Result}
use Rattle.std.specs.declared.result.Result.TheVariants.{Ok, Err}
use Rattle.trace_text.specs.declared.refusals.TraceRefusal.{TraceRefusal}
use Rattle.trace_text.specs.declared.refusals.TraceRefusal.TheVariants as traces
use Rattle.symbol_ranges.specs.declared.refusals.SymbolRefusal.{SymbolRefusal}
use Rattle.symbol_ranges.specs.declared.refusals.SymbolRefusal.TheVariants as symbols
use Rattle.database_state.specs.declared.faults.DbFault.{DbFault}
use Rattle.database_state.specs.declared.faults.DbFault.TheVariants as faults
use Rattle.dcpi_top.specs.declared.refusals.Refusal.{Refusal}
use Rattle.dcpi_top.specs.declared.refusals.Refusal.TheVariants.{Usage, TraceBad, ReadFault, StoreFault, WriteFault, Memory, DatabaseBad, Full, SymbolBad, NoSuchEpoch}

-- the status of a refusal
abbrev pub status_of : Refusal → ℕ
status_of Usage = 1
status_of (TraceBad line why) = 2
status_of ReadFault = 3
status_of StoreFault = 4
status_of WriteFault = 5
status_of Memory = 6
status_of (DatabaseBad file) = 7
status_of (Full what held added) = 8
status_of (SymbolBad line why) = 9
status_of (NoSuchEpoch epoch last) = 10

-- the status where this was refused, or nothing
abbrev pub status_in : Option Refusal → ℕ
status_in None = 0
status_in (Some refusal) = status_of refusal

-- what a result refuses
abbrev pub refused : {T : Type 0} → Result T Refusal → Option Refusal
refused (Ok value) = None
refused (Err refusal) = Some refusal

-- a refusal of a trace is passed on as it is
abbrev pub IsOfTrace : TraceRefusal → Refusal → Type 0
IsOfTrace (traces.Bad line why) refusal = refusal ≡ TraceBad line why
IsOfTrace traces.ReadFault refusal = refusal ≡ ReadFault
IsOfTrace traces.Memory refusal = refusal ≡ Memory

-- so is one of a symbol list
abbrev pub IsOfSymbols : SymbolRefusal → Refusal → Type 0
IsOfSymbols (symbols.Bad line why) refusal = refusal ≡ SymbolBad line why
IsOfSymbols symbols.ReadFault refusal = refusal ≡ ReadFault
IsOfSymbols symbols.Memory refusal = refusal ≡ Memory

-- so is a fault of a database
abbrev pub IsOfDatabase : DbFault → Refusal → Type 0
IsOfDatabase faults.StoreFault refusal = refusal ≡ StoreFault
IsOfDatabase (faults.Bad file) refusal = refusal ≡ DatabaseBad file
IsOfDatabase (faults.Full what held added) refusal = refusal ≡ Full what held added
IsOfDatabase faults.Memory refusal = refusal ≡ Memory
