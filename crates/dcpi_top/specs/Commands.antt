-- The forms of commands.
use Rattle.std.specs.Prelude.{ℕ, ◌≤◌, ◌^◌, Bool, true, false, nat_le, nat_lt, if◌then◌else◌, List, [], ◌∷◌, codes, option_and_then}
use Rattle.std.specs.declared.option.Option.{Option}
use Rattle.std.specs.declared.option.Option.TheVariants.{Some, None}
use Rattle.std.specs.Str.{bytes_eq}
use Rattle.text_num.specs.Numbers.{number}
use Rattle.sample_key.specs.declared.events.Event.{Event}
use Rattle.sample_key.specs.declared.limits.TheConstants.{MOST_SAMPLES}
use Rattle.sample_key.specs.Events.{event_named}
use Rattle.report_text.specs.declared.epochs.Epochs.{Epochs}
use Rattle.report_text.specs.declared.epochs.Epochs.TheVariants.{All, One}
use Rattle.dcpi_top.specs.declared.commands.Command.{Command}
use Rattle.dcpi_top.specs.declared.commands.Command.TheVariants.{Plain, Replay, ProfImage, ProfProcedure, Cat, Runs, Tidy, Make}

-- an epoch, where the number is below 2 ^ 32
abbrev pub epoch_in : ℕ → Option Epochs
epoch_in n = if nat_lt n (2 ^ 32) then Some (One n) else None

-- the epochs that a word asks for: `all`, or a canonical decimal
abbrev pub epochs_named : List ℕ → Option Epochs
epochs_named word =
    if bytes_eq word (codes "all") then Some All else option_and_then epoch_in (number 10 word)

-- whether a word asks for CSV, or for text
abbrev pub csv_named : List ℕ → Option Bool
csv_named word =
    if bytes_eq word (codes "csv") then Some true
    else if bytes_eq word (codes "text") then Some false else None

-- a listing by image or by procedure
abbrev pub listing_of : List ℕ → Epochs → Event → Bool → Option Command
listing_of kind epochs event csv =
    if bytes_eq kind (codes "image") then Some (ProfImage epochs event csv)
    else if bytes_eq kind (codes "procedure") then Some (ProfProcedure epochs event csv) else None

-- the listing that these words name, where they name one
abbrev pub listing_named : List ℕ → List ℕ → List ℕ → List ℕ → Option Command
listing_named kind epoch event form =
    option_and_then (λ epochs. option_and_then (λ counted. option_and_then (λ csv.
    listing_of kind epochs counted csv) (csv_named form)) (event_named event)) (epochs_named epoch)

-- a number of samples that a trace can have
abbrev pub samples_in : ℕ → Option ℕ
samples_in n = if nat_le n MOST_SAMPLES then Some n else None

-- the trace of a seed with so many samples: canonical decimals, the seed below 2 ^ 64
abbrev pub making_of : List ℕ → List ℕ → Bool → Option Command
making_of seed samples trace =
    option_and_then (λ from. option_and_then (λ most. Some (Make from most trace))
    (option_and_then samples_in (number 10 samples))) (number 10 seed)

-- a command of one word
abbrev pub command_alone : List ℕ → Option Command
command_alone word = if bytes_eq word (codes "plain") then Some Plain else None

-- a command on a database
abbrev pub command_on : List ℕ → Option Command
command_on word =
    if bytes_eq word (codes "replay") then Some Replay
    else if bytes_eq word (codes "cat") then Some Cat
    else if bytes_eq word (codes "runs") then Some Runs
    else if bytes_eq word (codes "tidy") then Some Tidy else None

-- a command that makes a trace and prints the summary of its run
abbrev pub command_making : List ℕ → List ℕ → List ℕ → Option Command
command_making word seed samples =
    if bytes_eq word (codes "make") then making_of seed samples false else None

-- a command that makes a trace and prints it
abbrev pub command_tracing : List ℕ → List ℕ → List ℕ → List ℕ → Option Command
command_tracing word seed samples form =
    if bytes_eq form (codes "--trace") then
    (if bytes_eq word (codes "make") then making_of seed samples true else None) else None

-- a command on a database, with how it lists
abbrev pub command_listing : List ℕ → List ℕ → List ℕ → List ℕ → List ℕ → Option Command
command_listing word kind epoch event form =
    if bytes_eq word (codes "prof") then listing_named kind epoch event form else None

-- The command that these words name, where they name one. The second word is the database, where the command has one.
abbrev pub command_of : List (List ℕ) → Option Command
command_of [] = None
command_of (word ∷ []) = command_alone word
command_of (word ∷ db ∷ []) = command_on word
command_of (word ∷ seed ∷ samples ∷ []) = command_making word seed samples
command_of (word ∷ seed ∷ samples ∷ form ∷ []) = command_tracing word seed samples form
command_of (word ∷ db ∷ kind ∷ epoch ∷ event ∷ []) = None
command_of (word ∷ db ∷ kind ∷ epoch ∷ event ∷ form ∷ []) =
    command_listing word kind epoch event form
command_of (word ∷ db ∷ kind ∷ epoch ∷ event ∷ form ∷ next ∷ more) = None

-- a command that makes a trace asks for no more samples than a trace can have
abbrev pub MakesFew : Command → Type 0
MakesFew Plain = Unit {0}
MakesFew Replay = Unit {0}
MakesFew (ProfImage epochs event csv) = Unit {0}
MakesFew (ProfProcedure epochs event csv) = Unit {0}
MakesFew Cat = Unit {0}
MakesFew Runs = Unit {0}
MakesFew Tidy = Unit {0}
MakesFew (Make seed samples trace) = samples ≤ MOST_SAMPLES
