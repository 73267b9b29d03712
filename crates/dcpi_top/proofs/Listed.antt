-- A listing of an opened database: what reading its rows gives, and where it stops.
use Rattle.std.proofs.Common.{◌≡◌, ◌≤◌, inr, ℕ, Bool, true, false, List, refl, sym, subst, ◌∙◌}
use Rattle.std.specs.declared.option.Option.{Option}
use Rattle.std.specs.declared.option.Option.TheVariants.{Some, None}
use Rattle.std.specs.Prelude.{IfSome}
use Rattle.std.specs.Io.KnownBytes.{IsAtEnd}
use Rattle.outside_io.specs.Causes.{Rose}
use Rattle.sample_key.specs.declared.events.Event.{Event}
use Rattle.sample_key.specs.Events.{code_of}
use Rattle.store_io.specs.Files.{Files}
use Rattle.store_io.specs.declared.file_refs.FileRef.{FileRef}
use Rattle.database_state.specs.Database.{Database}
use Rattle.database_state.specs.Heads.{Head}
use Rattle.database_state.specs.Standing.{HaveHead, database_of}
use Rattle.database_state.specs.declared.faults.DbFault.{DbFault}
use Rattle.database_state.specs.declared.faults.DbFault.TheVariants as faults
use Rattle.epoch_store.specs.Faults.{IsReadCause}
use Rattle.symbol_ranges.specs.declared.symbols.Symbol.{Symbol}
use Rattle.report_text.specs.declared.epochs.Epochs.{Epochs}
use Rattle.report_text.specs.Reports.{AddsUp, AreListed, Lists, Report, StandsInOrder}
use Rattle.dcpiprof_report.specs.Counting.{counted}
use Rattle.dcpiprof_report.specs.Reading.{first_bad, wanted, IsStopped}
use Rattle.dcpi_top.specs.declared.commands.Command.TheVariants.{ProfImage, ProfProcedure, Cat, Runs}
use Rattle.dcpi_top.specs.declared.refusals.Refusal.{Refusal}
use Rattle.dcpi_top.specs.declared.refusals.Refusal.TheVariants as refusals
use Rattle.dcpi_top.specs.Refusals.{IsOfDatabase}
use Rattle.dcpi_top.specs.Streams.{Stream, Disk, HasFailed, IsUntouched, KeepsCount}
use Rattle.dcpi_top.specs.Inputs.{ReadsAsSymbols}
use Rattle.dcpi_top.specs.Heads.{AreThere}
use Rattle.dcpi_top.specs.Listings.{IsImageText, IsProcedureText, IsWholeText, bad_profile, bad_segment, listing_text}
use Rattle.dcpi_top.specs.Causes.{FindsFirst, IsCause, ReadsBad, HasSymbols}

-- what is known of each value, where there is one
pub if_some : {A : Type 0} (o : Option A) (P : A → Type 0) → ((x : A) → o ≡ Some x → P x) → IfSome o P
if_some None P holds = tt
if_some (Some x) P holds = holds x refl

-- The database was opened with this head, and the epochs are there; then the store told these files and had so many faults.
pub record IsPrepared (epochs : Epochs) (disk : Disk) (middle : Option Files) (count : ℕ) (head : Head) : Type 0 where
  pub opened : (f : Files) → disk.old ≡ Some f → HaveHead f head
  pub there : AreThere epochs head
  pub files : middle ≡ disk.old
  pub counted : count ≡ disk.faults_before

-- reading the rows stopped at their first bad file
pub record IsCutShort (epochs : Epochs) (event : ℕ) (disk : Disk) (middle : Option Files) (count : ℕ) (head : Head)
    (fault : DbFault) : Type 0 where
  pub stopped : (f : Files) → middle ≡ Some f → HaveHead f head → IsStopped (first_bad f (wanted head epochs event)) fault
  pub cause : IsReadCause count disk.faults_after fault

found : (epochs : Epochs) (event : ℕ) (disk : Disk) (middle : Option Files) (count : ℕ) (head : Head) (file : FileRef)
    → IsPrepared epochs disk middle count head → IsCutShort epochs event disk middle count head (faults.Bad file)
    → ReadsBad epochs event disk file
found epochs event disk middle count head file p s = record {
  head = head;
  opened = if_some disk.old (λ f. HaveHead f head) p.opened;
  there = p.there;
  first = λ f told. s.stopped f (p.files ∙ told) (p.opened f told);
}

-- why a listing by image gives no text
pub image_stopped : (epochs : Epochs) (event : Event) (csv : Bool) (input : Stream) (disk : Disk) (middle : Option Files) (count : ℕ)
    (head : Head) (fault : DbFault) (refusal : Refusal) → IsUntouched input → IsPrepared epochs disk middle count head
    → IsCutShort epochs (code_of event) disk middle count head fault → IsOfDatabase fault refusal
    → IsCause (ProfImage epochs event csv) input disk refusal
image_stopped epochs event csv input disk middle count head faults.StoreFault refusal unread p s is =
    subst (λ r. IsCause (ProfImage epochs event csv) input disk r) (sym is)
    (tt, unread.faults, record { later = subst (λ n. n ≤ disk.faults_after) p.counted s.cause.0; rose = subst (λ n. Rose n disk.faults_after) p.counted s.cause.1 })
image_stopped epochs event csv input disk middle count head (faults.Bad file) refusal unread p s is =
    subst (λ r. IsCause (ProfImage epochs event csv) input disk r) (sym is)
    (tt, (unread.faults, s.cause ∙ p.counted), inr (found epochs (code_of event) disk middle count head file p s))
image_stopped epochs event csv input disk middle count head (faults.Full what held added) refusal unread p s is = absurd s.cause
image_stopped epochs event csv input disk middle count head faults.Memory refusal unread p s is =
    subst (λ r. IsCause (ProfImage epochs event csv) input disk r) (sym is) (unread.faults, s.cause ∙ p.counted)

-- why a listing by procedure gives none, once its symbols are read
pub procedure_stopped : (epochs : Epochs) (event : Event) (csv : Bool) (input : Stream) (disk : Disk) (middle : Option Files) (count : ℕ)
    (head : Head) (fault : DbFault) (refusal : Refusal) → KeepsCount input → HasSymbols input → IsPrepared epochs disk middle count head
    → IsCutShort epochs (code_of event) disk middle count head fault → IsOfDatabase fault refusal
    → IsCause (ProfProcedure epochs event csv) input disk refusal
procedure_stopped epochs event csv input disk middle count head faults.StoreFault refusal kept read p s is =
    subst (λ r. IsCause (ProfProcedure epochs event csv) input disk r) (sym is)
    (tt, kept, record { later = subst (λ n. n ≤ disk.faults_after) p.counted s.cause.0; rose = subst (λ n. Rose n disk.faults_after) p.counted s.cause.1 })
procedure_stopped epochs event csv input disk middle count head (faults.Bad file) refusal kept read p s is =
    subst (λ r. IsCause (ProfProcedure epochs event csv) input disk r) (sym is)
    (tt, (kept, s.cause ∙ p.counted), inr (read, found epochs (code_of event) disk middle count head file p s))
procedure_stopped epochs event csv input disk middle count head (faults.Full what held added) refusal kept read p s is = absurd s.cause
procedure_stopped epochs event csv input disk middle count head faults.Memory refusal kept read p s is =
    subst (λ r. IsCause (ProfProcedure epochs event csv) input disk r) (sym is) (kept, s.cause ∙ p.counted)

-- the rows that were read, and their text
pub record AreRead (symbols : Option (List Symbol)) (procedures : Bool) (epochs : Epochs) (event : Event) (csv : Bool) (disk : Disk)
    (middle : Option Files) (head : Head) (report : Report) (text : List ℕ) : Type 0 where
  pub sums : AddsUp report
  pub order : StandsInOrder report.rows
  pub labels : AreListed procedures report.rows
  pub listed : (f : Files) → middle ≡ Some f → HaveHead f head → (first_bad f (wanted head epochs (code_of event)) ≡ None)
      × Lists (counted (database_of head f) symbols epochs (code_of event)) report.rows
  pub printed : text ≡ listing_text csv procedures report epochs event

-- the text of a listing by image
pub image_read : (epochs : Epochs) (event : Event) (csv : Bool) (disk : Disk) (middle : Option Files) (count : ℕ) (head : Head)
    (report : Report) (text : List ℕ) → IsPrepared epochs disk middle count head
    → AreRead None false epochs event csv disk middle head report text → IsImageText epochs event csv disk text
image_read epochs event csv disk middle count head report text p r = record {
  head = head;
  opened = if_some disk.old (λ f. HaveHead f head) p.opened;
  there = p.there;
  listed = record {
    report = report;
    sums = r.sums;
    order = r.order;
    labels = r.labels;
    good = λ f told. (r.listed f (p.files ∙ told) (p.opened f told)).0;
    counts = λ f told. (r.listed f (p.files ∙ told) (p.opened f told)).1;
    printed = r.printed;
  };
}

-- the text of a listing by procedure
pub procedure_read : (epochs : Epochs) (event : Event) (csv : Bool) (input : Stream) (disk : Disk) (middle : Option Files) (count : ℕ) (head : Head)
    (symbols : List Symbol) (report : Report) (text : List ℕ) → ReadsAsSymbols input symbols → IsAtEnd input.new → IsPrepared epochs disk middle count head
    → AreRead (Some symbols) true epochs event csv disk middle head report text → IsProcedureText epochs event csv input disk text
procedure_read epochs event csv input disk middle count head symbols report text reads whole p r = record {
  head = head;
  symbols = symbols;
  opened = if_some disk.old (λ f. HaveHead f head) p.opened;
  there = p.there;
  reads = reads;
  whole = whole;
  listed = record {
    report = report;
    sums = r.sums;
    order = r.order;
    labels = r.labels;
    good = λ f told. (r.listed f (p.files ∙ told) (p.opened f told)).0;
    counts = λ f told. (r.listed f (p.files ∙ told) (p.opened f told)).1;
    printed = r.printed;
  };
}

-- The database was opened with this head; then the store told these files and had so many faults.
pub record WasOpened (disk : Disk) (middle : Option Files) (count : ℕ) (head : Head) : Type 0 where
  pub opened : (f : Files) → disk.old ≡ Some f → HaveHead f head
  pub files : middle ≡ disk.old
  pub counted : count ≡ disk.faults_before

-- why a text of the whole database is not given: the first bad file, a fault of the store, or want of memory
pub data Ends (first : Head → Files → Option FileRef) (disk : Disk) (refusal : Refusal) : Type 0 where
  Bad : (file : FileRef) → refusal ≡ refusals.DatabaseBad file → KeepsCount disk → FindsFirst first disk file → Ends first disk refusal
  Failed : refusal ≡ refusals.StoreFault → HasFailed disk → Ends first disk refusal
  Short : refusal ≡ refusals.Memory → KeepsCount disk → Ends first disk refusal

pub ends : (first : Head → Files → Option FileRef) (disk : Disk) (middle : Option Files) (count : ℕ) (head : Head) (fault : DbFault) (refusal : Refusal)
    → WasOpened disk middle count head → ((f : Files) → middle ≡ Some f → HaveHead f head → IsStopped (first head f) fault)
    → IsReadCause count disk.faults_after fault → IsOfDatabase fault refusal → Ends first disk refusal
ends first disk middle count head faults.StoreFault refusal o stopped cause is =
    Failed is (record { later = subst (λ n. n ≤ disk.faults_after) o.counted cause.0; rose = subst (λ n. Rose n disk.faults_after) o.counted cause.1 })
ends first disk middle count head (faults.Bad file) refusal o stopped cause is = Bad file is (cause ∙ o.counted) (record {
  head = head;
  opened = if_some disk.old (λ f. HaveHead f head) o.opened;
  found = λ f told. stopped f (o.files ∙ told) (o.opened f told);
})
ends first disk middle count head (faults.Full what held added) refusal o stopped cause is = absurd cause
ends first disk middle count head faults.Memory refusal o stopped cause is = Short is (cause ∙ o.counted)

-- so of all counts, and of the runs
pub cat_stopped : (input : Stream) (disk : Disk) (refusal : Refusal) → IsUntouched input → Ends bad_profile disk refusal → IsCause Cat input disk refusal
cat_stopped input disk refusal unread (Bad file is kept found) = subst (λ r. IsCause Cat input disk r) (sym is) (tt, (unread.faults, kept), inr found)
cat_stopped input disk refusal unread (Failed is failed) = subst (λ r. IsCause Cat input disk r) (sym is) (tt, unread.faults, failed)
cat_stopped input disk refusal unread (Short is kept) = subst (λ r. IsCause Cat input disk r) (sym is) (unread.faults, kept)

pub runs_stopped : (input : Stream) (disk : Disk) (refusal : Refusal) → IsUntouched input → Ends bad_segment disk refusal → IsCause Runs input disk refusal
runs_stopped input disk refusal unread (Bad file is kept found) = subst (λ r. IsCause Runs input disk r) (sym is) (tt, (unread.faults, kept), inr found)
runs_stopped input disk refusal unread (Failed is failed) = subst (λ r. IsCause Runs input disk r) (sym is) (tt, unread.faults, failed)
runs_stopped input disk refusal unread (Short is kept) = subst (λ r. IsCause Runs input disk r) (sym is) (unread.faults, kept)

-- the text of the whole database
pub whole_read : (first : Head → Files → Option FileRef) (IsTextFor : Database → List ℕ → Type 0) (disk : Disk) (middle : Option Files) (count : ℕ)
    (head : Head) (text : List ℕ) → WasOpened disk middle count head
    → ((f : Files) → middle ≡ Some f → HaveHead f head → (first head f ≡ None) × IsTextFor (database_of head f) text)
    → IsWholeText first IsTextFor disk text
whole_read first IsTextFor disk middle count head text o read = record {
  head = head;
  opened = if_some disk.old (λ f. HaveHead f head) o.opened;
  good = λ f told. (read f (o.files ∙ told) (o.opened f told)).0;
  printed = λ f told. (read f (o.files ∙ told) (o.opened f told)).1;
}
