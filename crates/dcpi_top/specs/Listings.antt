-- What the commands that list a database owe: a text of what it holds, by the files that they read.
use Rattle.std.specs.Prelude.{◌≡◌, ℕ, Bool, if◌then◌else◌, is_some, List}
use Rattle.std.specs.declared.option.Option.{Option}
use Rattle.std.specs.declared.option.Option.TheVariants.{Some, None}
use Rattle.std.specs.Io.KnownBytes.{IsAtEnd}
use Rattle.sample_key.specs.declared.events.Event.{Event}
use Rattle.sample_key.specs.Events.{code_of}
use Rattle.store_io.specs.Files.{Files}
use Rattle.store_io.specs.declared.file_refs.FileRef.{FileRef}
use Rattle.database_state.specs.Database.{Database}
use Rattle.database_state.specs.Heads.{Head}
use Rattle.database_state.specs.Standing.{database_of}
use Rattle.symbol_ranges.specs.declared.symbols.Symbol.{Symbol}
use Rattle.report_text.specs.declared.epochs.Epochs.{Epochs}
use Rattle.report_text.specs.Reports.{AddsUp, AreListed, Lists, Report, StandsInOrder}
use Rattle.report_text.specs.Texts.{report_text}
use Rattle.report_text.specs.Csvs.{report_csv}
use Rattle.dcpiprof_report.specs.Counting.{counted}
use Rattle.dcpiprof_report.specs.Reading.{first_bad, wanted}
use Rattle.counts_listing.specs.Counting.{all_files}
use Rattle.run_listing.specs.Orders as orders
use Rattle.run_listing.specs.Texts.{listing_of}
use Rattle.dcpi_top.specs.Streams.{Stream, Disk}
use Rattle.dcpi_top.specs.Inputs.{ReadsAsSymbols}
use Rattle.dcpi_top.specs.Heads.{AreThere, OpenedWith}

-- the bytes of a listing, as CSV or as text
abbrev pub listing_text : Bool → Bool → Report → Epochs → Event → List ℕ
listing_text csv procedures report epochs event =
    if csv then report_csv procedures report else report_text report epochs event

-- The text lists an event over some epochs, of a database with this head: by procedure of these symbols, or by image where there
-- are none. Where the store tells its files, each label has what the database counts there, and no file of a row that is wanted
-- is bad.
pub record IsListingOf (symbols : Option (List Symbol)) (epochs : Epochs) (event : Event)
    (csv : Bool) (disk : Disk) (head : Head) (text : List ℕ)
    : Type 0 where
  pub report : Report
  pub sums : AddsUp report
  pub order : StandsInOrder report.rows
  pub labels : AreListed (is_some symbols) report.rows
  pub good : (f : Files) → disk.old ≡ Some f →
      first_bad f (wanted head epochs (code_of event)) ≡ None
  pub counts : (f : Files) → disk.old ≡ Some f →
      Lists (counted (database_of head f) symbols epochs (code_of event)) report.rows
  pub printed : text ≡ listing_text csv (is_some symbols) report epochs event

-- the text of a listing by image: the database was opened, and the epochs are there
pub record IsImageText (epochs : Epochs) (event : Event) (csv : Bool) (disk : Disk)
    (text : List ℕ)
    : Type 0 where
  pub head : Head
  pub opened : OpenedWith disk head
  pub there : AreThere epochs head
  pub listed : IsListingOf None epochs event csv disk head text

-- the text of a listing by procedure: the input was read to its end, and is this symbol list
pub record IsProcedureText (epochs : Epochs) (event : Event) (csv : Bool) (input : Stream)
    (disk : Disk) (text : List ℕ)
    : Type 0 where
  pub head : Head
  pub symbols : List Symbol
  pub opened : OpenedWith disk head
  pub there : AreThere epochs head
  pub reads : ReadsAsSymbols input symbols
  pub whole : IsAtEnd input.new
  pub listed : IsListingOf (Some symbols) epochs event csv disk head text

-- the first bad file of all profiles, in the order of the head
abbrev pub bad_profile : Head → Files → Option FileRef
bad_profile head files = first_bad files (all_files head)

-- the file of the first segment that is bad or out of order
abbrev pub bad_segment : Head → Files → Option FileRef
bad_segment head files = orders.first_bad (database_of head files).segments

-- the text of the runs of a database
abbrev pub IsRunsTextOf : Database → List ℕ → Type 0
IsRunsTextOf db text = text ≡ listing_of db.segments

-- A text of all that a database with this head holds of a kind. Where the store tells its files, none of those that are read is
-- bad, and the text is that of the database.
pub record IsWholeText (first : Head → Files → Option FileRef) (IsTextFor : Database → List ℕ → Type 0)
    (disk : Disk) (text : List ℕ)
    : Type 0 where
  pub head : Head
  pub opened : OpenedWith disk head
  pub good : (f : Files) → disk.old ≡ Some f → first head f ≡ None
  pub printed : (f : Files) → disk.old ≡ Some f → IsTextFor (database_of head f) text
