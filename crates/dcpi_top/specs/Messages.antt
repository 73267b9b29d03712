-- The line that a refusal brings on the error output.
use Rattle.std.specs.Prelude.{◌≡◌, ℕ, List, [], ◌∷◌, ◌++◌, ◌⊎◌, false, codes, unwrap_or}
use Rattle.std.specs.declared.option.Option.{Option}
use Rattle.std.specs.declared.option.Option.TheVariants.{Some, None}
use Rattle.std.specs.Option.{option_map}
use Rattle.std.specs.Fmt.{decimal, digits}
use Rattle.std.specs.Io.KnownBytes.{Appends}
use Rattle.sample_key.specs.Events.{event_of_code, name_of}
use Rattle.store_io.specs.FileNames.{file_name}
use Rattle.trace_model.specs.declared.reasons.TraceWhy.{TraceWhy}
use Rattle.trace_model.specs.declared.reasons.TraceWhy.TheVariants.{NotHeader, BadWord, AfterEnd, BadNumber, OutOfRange, Unaligned, BadName, NoSuchCpu, ScanTooLate, TooManySamples, TooManyRecords, NoEnd}
use Rattle.symbol_ranges.specs.Words as symbols
use Rattle.database_state.specs.declared.faults.FullWhat.{FullWhat}
use Rattle.database_state.specs.declared.faults.FullWhat.TheVariants.{Images, Known, Unknown, Rows}
use Rattle.dcpi_top.specs.declared.refusals.Refusal.{Refusal}
use Rattle.dcpi_top.specs.declared.refusals.Refusal.TheVariants.{Usage, TraceBad, ReadFault, StoreFault, WriteFault, Memory, DatabaseBad, Full, SymbolBad, NoSuchEpoch}
use Rattle.dcpi_top.specs.Streams.{Stream, HasFailed, IsUntouched}

-- the word for a reason
abbrev pub word_of : TraceWhy → List ℕ
word_of NotHeader = codes "NotHeader"
word_of BadWord = codes "BadWord"
word_of AfterEnd = codes "AfterEnd"
word_of BadNumber = codes "BadNumber"
word_of OutOfRange = codes "OutOfRange"
word_of Unaligned = codes "Unaligned"
word_of BadName = codes "BadName"
word_of NoSuchCpu = codes "NoSuchCpu"
word_of ScanTooLate = codes "ScanTooLate"
word_of TooManySamples = codes "TooManySamples"
word_of TooManyRecords = codes "TooManyRecords"
word_of NoEnd = codes "NoEnd"

-- a line with its line feed
abbrev pub ended : List ℕ → List ℕ
ended words = words ++ 10 ∷ []

-- what has no room, up to the first number
abbrev pub full_words : FullWhat → List ℕ
full_words Images = codes "dcpi: full: images held "
full_words (Known epoch image event offset) = codes "dcpi: full: known epoch "
full_words (Unknown epoch event pc) = codes "dcpi: full: unknown epoch "
full_words Rows = codes "dcpi: full: rows held "

-- the line up to its first number or name, which takes no memory: the whole line where it has none
abbrev pub first_words : Refusal → List ℕ
first_words Usage = ended (codes "dcpi: usage")
first_words (TraceBad line why) = codes "dcpi: trace line "
first_words ReadFault = ended (codes "dcpi: read fault")
first_words StoreFault = ended (codes "dcpi: store fault")
first_words WriteFault = ended (codes "dcpi: write fault")
first_words Memory = ended (codes "dcpi: out of memory")
first_words (DatabaseBad file) = codes "dcpi: database file "
first_words (Full what held added) = full_words what
first_words (SymbolBad line why) = codes "dcpi: symbols line "
first_words (NoSuchEpoch epoch last) = codes "dcpi: no epoch "

-- the number of a bad line and its reason
abbrev pub place_words : ℕ → List ℕ → List ℕ
place_words line reason = decimal line ++ (codes ": " ++ (reason ++ 10 ∷ []))

-- the name of the event of a code
abbrev pub coded_name : ℕ → List ℕ
coded_name code = unwrap_or (option_map name_of (event_of_code code)) []

-- an event and an address, up to what is held there
abbrev pub address_words : ℕ → ℕ → List ℕ
address_words event address = 32 ∷ (coded_name event ++ 32 ∷ (digits 16 false address ++ codes " held "))

-- the place that has no room, from its first number up to what is held there
abbrev pub full_place : FullWhat → List ℕ
full_place Images = []
full_place (Known epoch image event offset) =
    decimal epoch ++ (codes " image " ++ (decimal image ++ address_words event offset))
full_place (Unknown epoch event pc) = decimal epoch ++ address_words event pc
full_place Rows = []

-- what is held, and what was to be added
abbrev pub amount_words : ℕ → ℕ → List ℕ
amount_words held added = decimal held ++ (codes " added " ++ (decimal added ++ 10 ∷ []))

-- the epoch that is not there, and the last one
abbrev pub epoch_words : ℕ → ℕ → List ℕ
epoch_words epoch last = decimal epoch ++ (codes ", last is " ++ (decimal last ++ 10 ∷ []))

-- the line from its first number or name on
abbrev pub last_words : Refusal → List ℕ
last_words Usage = []
last_words (TraceBad line why) = place_words line (word_of why)
last_words ReadFault = []
last_words StoreFault = []
last_words WriteFault = []
last_words Memory = []
last_words (DatabaseBad file) = file_name file ++ ended (codes " is bad")
last_words (Full what held added) = full_place what ++ amount_words held added
last_words (SymbolBad line why) = place_words line (symbols.word_of why)
last_words (NoSuchEpoch epoch last) = epoch_words epoch last

-- the line of a refusal
abbrev pub line_of : Refusal → List ℕ
line_of refusal = first_words refusal ++ last_words refusal

-- The line was written, or a prefix of it: at least its first words where there was no memory for the rest, and less
-- only where a write failed.
pub record Tells (refusal : Refusal) (errors : Stream) : Type 0 where
  pub prefix : List ℕ
  pub rest : List ℕ
  pub line : line_of refusal ≡ prefix ++ rest
  pub written : Appends errors.old errors.new prefix
  pub enough : ((more : List ℕ) × (prefix ≡ first_words refusal ++ more)) ⊎ HasFailed errors

-- one line is told of what was refused, and nothing where nothing was
abbrev pub TellsLine : Option Refusal → Stream → Type 0
TellsLine None errors = IsUntouched errors
TellsLine (Some refusal) errors = Tells refusal errors
