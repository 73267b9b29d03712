-- A refusal that is owed is the one that is answered, but for a fault or want of memory.
use Rattle.std.proofs.Common.{◌≡◌, ◌⊎◌, inl, inr, ℕ, true, List, refl, sym, subst, ap, ◌∙◌}
use Rattle.std.specs.declared.option.Option.{Option}
use Rattle.std.specs.declared.option.Option.TheVariants.{Some, None}
use Rattle.std.specs.Prelude.{IfSome}
use Rattle.store_io.specs.Files.{Files}
use Rattle.store_io.specs.declared.file_refs.FileRef.{FileRef}
use Rattle.sample_key.specs.Events.{code_of}
use Rattle.trace_model.specs.declared.reasons.TraceWhy.{TraceWhy}
use Rattle.trace_model.specs.Grammar.{FirstBad}
use Rattle.trace_model.specs.Recording.{Recording, Reads}
use Rattle.symbol_ranges.specs.declared.symbols.Symbol.{Symbol}
use Rattle.symbol_ranges.specs.declared.refusals.SymbolWhy.{SymbolWhy}
use Rattle.symbol_ranges.specs.Lines as symbols
use Rattle.database_state.specs.Database.{Database}
use Rattle.database_state.specs.Heads.{Head}
use Rattle.database_state.specs.Standing.{HaveHead}
use Rattle.database_state.specs.declared.faults.DbFault.{DbFault}
use Rattle.database_state.specs.declared.faults.DbFault.TheVariants as faults
use Rattle.dcpid_core.specs.Storing.{is_found_before}
use Rattle.replay_drive.specs.Growing.{StopsAt}
use Rattle.dcpi_top.specs.Replays.{IsReplayText, MustStop, StopsRun, run_of}
use Rattle.dcpi_top.proofs.OneStop.{EndsWith, no_end, one_stop}
use Rattle.report_text.specs.declared.epochs.Epochs.{Epochs}
use Rattle.report_text.specs.declared.epochs.Epochs.TheVariants.{One}
use Rattle.dcpiprof_report.specs.Reading.{first_bad, wanted}
use Rattle.dcpi_top.specs.declared.commands.Command.{Command}
use Rattle.dcpi_top.specs.declared.commands.Command.TheVariants.{Plain, Replay, ProfImage, ProfProcedure, Cat, Runs, Tidy, Make}
use Rattle.dcpi_top.specs.declared.refusals.Refusal.{Refusal}
use Rattle.dcpi_top.specs.declared.refusals.Refusal.TheVariants.{Usage, TraceBad, ReadFault, StoreFault, WriteFault, Memory, DatabaseBad, Full, SymbolBad, NoSuchEpoch}
use Rattle.dcpi_top.specs.Streams.{Stream, Disk}
use Rattle.dcpi_top.specs.Inputs.{IsTold, IsToldBad, IsToldBadSymbol}
use Rattle.dcpi_top.specs.Heads.{AreThere, IsBadHead, IsToldBadHead, IsToldHead, OpenedWith}
use Rattle.dcpi_top.specs.Listings.{IsListingOf, IsWholeText, bad_profile, bad_segment}
use Rattle.dcpi_top.specs.Causes.{FindsFirst, HasEpochs, IsBegun, IsCause, IsText, LacksEpoch, ReadsBad, ReadsSymbols, ReadsTrace, UsesStore}
use Rattle.dcpi_top.specs.Owing.{HasToldEpochs, IsFree, IsOwed, IsRefusedAs, IsToldBegun, ToldFirst, ToldLacks, ToldWhole}
use Rattle.dcpi_top.specs.Answers.{Serves}
use Rattle.dcpi_top.proofs.Heading.{good_head, one_bad_head}
use Rattle.dcpi_top.proofs.KnownLaws.{Known}
use Rattle.dcpi_top.proofs.Sound.{first_found, images_apart, no_bad_line, no_bad_symbol, no_epoch, not_bad, same_head, same_trace, there_is, told_good, whole_found}

-- how a refusal is owed: no text can be given, and each other cause is none
by_cause : (command : Command) (input : Stream) (disk : Disk) (output : Stream) (refusal : Option Refusal) (owed : Refusal)
    → Serves command input disk output refusal → ((text : List ℕ) → IsText command input disk text → ⊥)
    → ((r : Refusal) → IsCause command input disk r → (r ≡ owed) ⊎ IsFree r) → IsRefusedAs owed refusal
by_cause command input disk output None owed serves no_text causes = no_text serves.text serves.is_text
by_cause command input disk output (Some r) owed (inl refused) no_text causes = causes r refused.0
by_cause command input disk output (Some r) owed (inr failed) no_text causes = absurd (no_text failed.1.text failed.1.is_text)

-- ---- what is told, and what was found

-- an input with a bad line reads as no trace
pub no_trace : Known → (o : Option (List ℕ)) (line : ℕ) (why : TraceWhy) (recording : Recording) → IfSome o (λ bytes. Reads bytes recording)
    → IsTold o (λ bytes. FirstBad bytes line why) → ⊥
no_trace laws None line why recording reads told = told
no_trace laws (Some bytes) line why recording reads told = laws.not_both bytes (recording, reads) (line, why, told)

no_listing : Known → (o : Option (List ℕ)) (line : ℕ) (why : TraceWhy) (text : List ℕ) → Rattle.dcpi_top.specs.Plains.IsPlainTextOf o text
    → IsTold o (λ bytes. FirstBad bytes line why) → ⊥
no_listing laws None line why text is told = told
no_listing laws (Some bytes) line why text is told = laws.not_both bytes (is.recording, is.reads) (line, why, told)

pub one_line : Known → (o : Option (List ℕ)) (a b : ℕ) (why other : TraceWhy) → IfSome o (λ bytes. FirstBad bytes a why)
    → IsTold o (λ bytes. FirstBad bytes b other) → TraceBad a why ≡ TraceBad b other
one_line laws None a b why other bad told = absurd told
one_line laws (Some bytes) a b why other bad told = let same = laws.one_refusal bytes a b why other bad told in λ i. TraceBad (same.0 i) (same.1 i)

no_symbols : Known → (o : Option (List ℕ)) (line : ℕ) (why : SymbolWhy) (list : List Symbol) → IfSome o (λ bytes. symbols.Reads bytes list)
    → IsTold o (λ bytes. symbols.FirstBad bytes line why) → ⊥
no_symbols laws None line why list reads told = told
no_symbols laws (Some bytes) line why list reads told = laws.no_list bytes (list, reads) (line, why, told)

one_symbol : Known → (o : Option (List ℕ)) (a b : ℕ) (why other : SymbolWhy) → IfSome o (λ bytes. symbols.FirstBad bytes a why)
    → IsTold o (λ bytes. symbols.FirstBad bytes b other) → SymbolBad a why ≡ SymbolBad b other
one_symbol laws None a b why other bad told = absurd told
one_symbol laws (Some bytes) a b why other bad told = let same = laws.one_symbol_refusal bytes a b why other bad told in λ i. SymbolBad (same.0 i) (same.1 i)

-- a head that is told to be bad is not good
pub told_bad : (o : Option Files) (h : Head) (file : FileRef) → IfSome o (λ f. HaveHead f h) → IsTold o (λ f. IsBadHead f file) → ⊥
told_bad None h file good told = told
told_bad (Some f) h file good told = good_head f h file good told

told_same : Known → (o : Option Files) (h k : Head) → IfSome o (λ f. HaveHead f h) → IsTold o (λ f. HaveHead f k) → h ≡ k
told_same laws None h k opened told = absurd told
told_same laws (Some f) h k opened told = laws.one_head f h k opened told

pub one_head_file : (o : Option Files) (a b : FileRef) → IfSome o (λ f. IsBadHead f a) → IsTold o (λ f. IsBadHead f b) → DatabaseBad a ≡ DatabaseBad b
one_head_file None a b bad told = absurd told
one_head_file (Some f) a b bad told = ap DatabaseBad (one_bad_head f a b bad told)

-- ---- a bad line of a trace

trace_text : Known → (command : Command) (input : Stream) (disk : Disk) (line : ℕ) (why : TraceWhy) → ReadsTrace command → IsToldBad input line why
    → (text : List ℕ) → IsText command input disk text → ⊥
trace_text laws Plain input disk line why reads told text is = no_listing laws input.old line why text is.is_text told
trace_text laws Replay input disk line why reads told text is = no_trace laws input.old line why is.recording is.reads told
trace_text laws (ProfImage epochs event csv) input disk line why reads told text is = reads
trace_text laws (ProfProcedure epochs event csv) input disk line why reads told text is = reads
trace_text laws Cat input disk line why reads told text is = reads
trace_text laws Runs input disk line why reads told text is = reads
trace_text laws Tidy input disk line why reads told text is = reads
trace_text laws (Make seed samples trace) input disk line why reads told text is = reads

trace_plain : Known → (input : Stream) (disk : Disk) (line : ℕ) (why : TraceWhy) → IsToldBad input line why
    → (r : Refusal) → IsCause Plain input disk r → (r ≡ TraceBad line why) ⊎ IsFree r
trace_plain laws input disk line why told Usage cause = absurd cause
trace_plain laws input disk line why told (TraceBad a b) cause = inl (one_line laws input.old a line b why cause.2 told)
trace_plain laws input disk line why told ReadFault cause = inr tt
trace_plain laws input disk line why told StoreFault cause = inr tt
trace_plain laws input disk line why told WriteFault cause = absurd cause
trace_plain laws input disk line why told Memory cause = inr tt
trace_plain laws input disk line why told (DatabaseBad file) cause = absurd cause.0
trace_plain laws input disk line why told (Full what held added) cause = absurd cause.1
trace_plain laws input disk line why told (SymbolBad a b) cause = absurd cause.0
trace_plain laws input disk line why told (NoSuchEpoch epoch last) cause = absurd cause.0

trace_replay : Known → (input : Stream) (disk : Disk) (line : ℕ) (why : TraceWhy) (head : Head) → IsToldHead disk head → IsToldBad input line why
    → (r : Refusal) → IsCause Replay input disk r → (r ≡ TraceBad line why) ⊎ IsFree r
trace_replay laws input disk line why head good told Usage cause = absurd cause
trace_replay laws input disk line why head good told (TraceBad a b) cause = inl (one_line laws input.old a line b why cause.2 told)
trace_replay laws input disk line why head good told ReadFault cause = inr tt
trace_replay laws input disk line why head good told StoreFault cause = inr tt
trace_replay laws input disk line why head good told WriteFault cause = absurd cause
trace_replay laws input disk line why head good told Memory cause = inr tt
trace_replay laws input disk line why head good told (DatabaseBad file) cause = absurd (elim cause.2 [
  | inl bad ↦ told_good disk.old head file bad.bad good
  | inr run ↦ no_trace laws input.old line why run.recording run.reads told
])
trace_replay laws input disk line why head good told (Full what held added) cause = absurd (no_trace laws input.old line why cause.1.recording cause.1.reads told)
trace_replay laws input disk line why head good told (SymbolBad a b) cause = absurd cause.0
trace_replay laws input disk line why head good told (NoSuchEpoch epoch last) cause = absurd cause.0

trace_cause : Known → (command : Command) (input : Stream) (disk : Disk) (line : ℕ) (why : TraceWhy) → ReadsTrace command → IsToldBegun command disk
    → IsToldBad input line why → (r : Refusal) → IsCause command input disk r → (r ≡ TraceBad line why) ⊎ IsFree r
trace_cause laws Plain input disk line why reads begun told r cause = trace_plain laws input disk line why told r cause
trace_cause laws Replay input disk line why reads begun told r cause = trace_replay laws input disk line why begun.0 begun.1 told r cause
trace_cause laws (ProfImage epochs event csv) input disk line why reads begun told r cause = absurd reads
trace_cause laws (ProfProcedure epochs event csv) input disk line why reads begun told r cause = absurd reads
trace_cause laws Cat input disk line why reads begun told r cause = absurd reads
trace_cause laws Runs input disk line why reads begun told r cause = absurd reads
trace_cause laws Tidy input disk line why reads begun told r cause = absurd reads
trace_cause laws (Make seed samples trace) input disk line why reads begun told r cause = absurd reads

-- ---- a bad line of a symbol list

symbol_cause : Known → (epochs : Epochs) (event : Rattle.sample_key.specs.declared.events.Event.Event) (csv : Rattle.std.specs.Prelude.Bool) (input : Stream) (disk : Disk)
    (line : ℕ) (why : SymbolWhy) → HasToldEpochs epochs disk → IsToldBadSymbol input line why
    → (r : Refusal) → IsCause (ProfProcedure epochs event csv) input disk r → (r ≡ SymbolBad line why) ⊎ IsFree r
symbol_cause laws epochs event csv input disk line why begun told Usage cause = absurd cause
symbol_cause laws epochs event csv input disk line why begun told (TraceBad a b) cause = absurd cause.0
symbol_cause laws epochs event csv input disk line why begun told ReadFault cause = inr tt
symbol_cause laws epochs event csv input disk line why begun told StoreFault cause = inr tt
symbol_cause laws epochs event csv input disk line why begun told WriteFault cause = absurd cause
symbol_cause laws epochs event csv input disk line why begun told Memory cause = inr tt
symbol_cause laws epochs event csv input disk line why begun told (DatabaseBad file) cause = absurd (elim cause.2 [
  | inl bad ↦ told_good disk.old begun.0 file bad.bad begun.1
  | inr found ↦ no_symbols laws input.old line why found.0.symbols found.0.reads told
])
symbol_cause laws epochs event csv input disk line why begun told (Full what held added) cause = absurd cause.1
symbol_cause laws epochs event csv input disk line why begun told (SymbolBad a b) cause = inl (one_symbol laws input.old a line b why cause.2 told)
symbol_cause laws epochs event csv input disk line why begun told (NoSuchEpoch epoch last) cause = absurd
    (there_is epochs cause.0.head begun.0 epoch last cause.0.asked cause.0.is_last cause.0.above
    (told_same laws disk.old cause.0.head begun.0 cause.0.opened begun.1) begun.2)

-- ---- an epoch above the last one

-- it is not there
told_above : Known → (epochs : Epochs) (disk : Disk) (epoch last : ℕ) (head : Head) → ToldLacks epochs disk epoch last → OpenedWith disk head → AreThere epochs head → ⊥
told_above laws epochs disk epoch last head lacks opened there =
    let same : head ≡ lacks.head = told_same laws disk.old head lacks.head opened lacks.opened in
    there_is epochs lacks.head head epoch last lacks.asked lacks.is_last lacks.above (sym same) there

one_epoch : Known → (epochs : Epochs) (disk : Disk) (a b last other : ℕ) → LacksEpoch epochs disk a last → ToldLacks epochs disk b other → NoSuchEpoch a last ≡ NoSuchEpoch b other
one_epoch laws epochs disk a b last other found told =
    let same : found.head ≡ told.head = told_same laws disk.old found.head told.head found.opened told.opened in
    let asked : a ≡ b = one_of a b (sym found.asked ∙ told.asked) in
    let lasts : last ≡ other = found.is_last ∙ (ap (λ (h : Head). h.epoch) same ∙ sym told.is_last) in
    λ i. NoSuchEpoch (asked i) (lasts i)
  where
    one_of : (a b : ℕ) → One a ≡ One b → a ≡ b
    one_of a b e = cc

image_epoch : Known → (epochs : Epochs) (event : Rattle.sample_key.specs.declared.events.Event.Event) (csv : Rattle.std.specs.Prelude.Bool) (input : Stream) (disk : Disk)
    (epoch last : ℕ) → ToldLacks epochs disk epoch last
    → (r : Refusal) → IsCause (ProfImage epochs event csv) input disk r → (r ≡ NoSuchEpoch epoch last) ⊎ IsFree r
image_epoch laws epochs event csv input disk epoch last told Usage cause = absurd cause
image_epoch laws epochs event csv input disk epoch last told (TraceBad a b) cause = absurd cause.0
image_epoch laws epochs event csv input disk epoch last told ReadFault cause = inr tt
image_epoch laws epochs event csv input disk epoch last told StoreFault cause = inr tt
image_epoch laws epochs event csv input disk epoch last told WriteFault cause = absurd cause
image_epoch laws epochs event csv input disk epoch last told Memory cause = inr tt
image_epoch laws epochs event csv input disk epoch last told (DatabaseBad file) cause = absurd (elim cause.2 [
  | inl bad ↦ told_good disk.old told.head file bad.bad told.opened
  | inr found ↦ told_above laws epochs disk epoch last found.head told found.opened found.there
])
image_epoch laws epochs event csv input disk epoch last told (Full what held added) cause = absurd cause.1
image_epoch laws epochs event csv input disk epoch last told (SymbolBad a b) cause = absurd cause.0
image_epoch laws epochs event csv input disk epoch last told (NoSuchEpoch a b) cause = inl (one_epoch laws epochs disk a epoch b last cause.0 told)

procedure_epoch : Known → (epochs : Epochs) (event : Rattle.sample_key.specs.declared.events.Event.Event) (csv : Rattle.std.specs.Prelude.Bool) (input : Stream) (disk : Disk)
    (epoch last : ℕ) → ToldLacks epochs disk epoch last
    → (r : Refusal) → IsCause (ProfProcedure epochs event csv) input disk r → (r ≡ NoSuchEpoch epoch last) ⊎ IsFree r
procedure_epoch laws epochs event csv input disk epoch last told Usage cause = absurd cause
procedure_epoch laws epochs event csv input disk epoch last told (TraceBad a b) cause = absurd cause.0
procedure_epoch laws epochs event csv input disk epoch last told ReadFault cause = inr tt
procedure_epoch laws epochs event csv input disk epoch last told StoreFault cause = inr tt
procedure_epoch laws epochs event csv input disk epoch last told WriteFault cause = absurd cause
procedure_epoch laws epochs event csv input disk epoch last told Memory cause = inr tt
procedure_epoch laws epochs event csv input disk epoch last told (DatabaseBad file) cause = absurd (elim cause.2 [
  | inl bad ↦ told_good disk.old told.head file bad.bad told.opened
  | inr found ↦ told_above laws epochs disk epoch last found.1.head told found.1.opened found.1.there
])
procedure_epoch laws epochs event csv input disk epoch last told (Full what held added) cause = absurd cause.1
procedure_epoch laws epochs event csv input disk epoch last told (SymbolBad a b) cause = absurd (told_above laws epochs disk epoch last cause.1.0 told cause.1.1 cause.1.2)
procedure_epoch laws epochs event csv input disk epoch last told (NoSuchEpoch a b) cause = inl (one_epoch laws epochs disk a epoch b last cause.0 told)

-- ---- a bad head

head_text_none : (command : Command) (input : Stream) (disk : Disk) (file : FileRef) → UsesStore command → IsToldBadHead disk file
    → (text : List ℕ) → IsText command input disk text → ⊥
head_text_none Plain input disk file uses told text is = uses
head_text_none Replay input disk file uses told text is = told_bad disk.old is.head file is.opened told
head_text_none (ProfImage epochs event csv) input disk file uses told text is = told_bad disk.old is.head file is.opened told
head_text_none (ProfProcedure epochs event csv) input disk file uses told text is = told_bad disk.old is.head file is.opened told
head_text_none Cat input disk file uses told text is = told_bad disk.old is.head file is.opened told
head_text_none Runs input disk file uses told text is = told_bad disk.old is.head file is.opened told
head_text_none Tidy input disk file uses told text is = told_bad disk.old is.head file is.opened told
head_text_none (Make seed samples trace) input disk file uses told text is = uses

-- nothing was read behind it
no_begun : (command : Command) (disk : Disk) (file : FileRef) → UsesStore command → IsToldBadHead disk file → IsBegun command disk → ⊥
no_begun Plain disk file uses told begun = uses
no_begun Replay disk file uses told begun = told_bad disk.old begun.0 file begun.1 told
no_begun (ProfImage epochs event csv) disk file uses told begun = told_bad disk.old begun.0 file begun.1 told
no_begun (ProfProcedure epochs event csv) disk file uses told begun = told_bad disk.old begun.0 file begun.1 told
no_begun Cat disk file uses told begun = told_bad disk.old begun.0 file begun.1 told
no_begun Runs disk file uses told begun = told_bad disk.old begun.0 file begun.1 told
no_begun Tidy disk file uses told begun = told_bad disk.old begun.0 file begun.1 told
no_begun (Make seed samples trace) disk file uses told begun = uses

no_found : (command : Command) (input : Stream) (disk : Disk) (file other : FileRef) → UsesStore command → IsToldBadHead disk file
    → Rattle.dcpi_top.specs.Causes.FindsBad command input disk other → ⊥
no_found Plain input disk file other uses told found = uses
no_found Replay input disk file other uses told found = told_bad disk.old found.head file found.opened told
no_found (ProfImage epochs event csv) input disk file other uses told found = told_bad disk.old found.head file found.opened told
no_found (ProfProcedure epochs event csv) input disk file other uses told found = told_bad disk.old found.1.head file found.1.opened told
no_found Cat input disk file other uses told found = told_bad disk.old found.head file found.opened told
no_found Runs input disk file other uses told found = told_bad disk.old found.head file found.opened told
no_found Tidy input disk file other uses told found = found
no_found (Make seed samples trace) input disk file other uses told found = found

no_missing : (command : Command) (disk : Disk) (file : FileRef) (epoch last : ℕ) → UsesStore command → IsToldBadHead disk file
    → Rattle.dcpi_top.specs.Causes.IsMissing command disk epoch last → ⊥
no_missing Plain disk file epoch last uses told lacks = uses
no_missing Replay disk file epoch last uses told lacks = lacks
no_missing (ProfImage epochs event csv) disk file epoch last uses told lacks = told_bad disk.old lacks.head file lacks.opened told
no_missing (ProfProcedure epochs event csv) disk file epoch last uses told lacks = told_bad disk.old lacks.head file lacks.opened told
no_missing Cat disk file epoch last uses told lacks = lacks
no_missing Runs disk file epoch last uses told lacks = lacks
no_missing Tidy disk file epoch last uses told lacks = lacks
no_missing (Make seed samples trace) disk file epoch last uses told lacks = lacks

no_room : (command : Command) (input : Stream) (disk : Disk) (file : FileRef) (what : Rattle.database_state.specs.declared.faults.FullWhat.FullWhat) (held added : ℕ)
    → UsesStore command → IsToldBadHead disk file → Rattle.dcpi_top.specs.Causes.IsFull command input disk what held added → ⊥
no_room Plain input disk file what held added uses told full = uses
no_room Replay input disk file what held added uses told full = told_bad disk.old full.head file full.opened told
no_room (ProfImage epochs event csv) input disk file what held added uses told full = full
no_room (ProfProcedure epochs event csv) input disk file what held added uses told full = full
no_room Cat input disk file what held added uses told full = full
no_room Runs input disk file what held added uses told full = full
no_room Tidy input disk file what held added uses told full = full
no_room (Make seed samples trace) input disk file what held added uses told full = full

head_cause : (command : Command) (input : Stream) (disk : Disk) (file : FileRef) → UsesStore command → IsToldBadHead disk file
    → (r : Refusal) → IsCause command input disk r → (r ≡ DatabaseBad file) ⊎ IsFree r
head_cause command input disk file uses told Usage cause = absurd cause
head_cause command input disk file uses told (TraceBad a b) cause = absurd (no_begun command disk file uses told cause.1)
head_cause command input disk file uses told ReadFault cause = inr tt
head_cause command input disk file uses told StoreFault cause = inr tt
head_cause command input disk file uses told WriteFault cause = absurd cause
head_cause command input disk file uses told Memory cause = inr tt
head_cause command input disk file uses told (DatabaseBad other) cause = elim cause.2 [
  | inl bad ↦ inl (one_head_file disk.old other file bad.bad told)
  | inr found ↦ absurd (no_found command input disk file other uses told found)
]
head_cause command input disk file uses told (Full what held added) cause = absurd (no_room command input disk file what held added uses told cause.1)
head_cause command input disk file uses told (SymbolBad a b) cause = absurd (no_begun command disk file uses told cause.1)
head_cause command input disk file uses told (NoSuchEpoch epoch last) cause = absurd (no_missing command disk file epoch last uses told cause.0)

-- ---- a bad file of a listing

same_file : (a b : FileRef) → Some a ≡ Some b → DatabaseBad a ≡ DatabaseBad b
same_file a b e = ap DatabaseBad (one a b e)
  where
    one : (a b : FileRef) → Some a ≡ Some b → a ≡ b
    one a b e = cc

some_none : (file : FileRef) → None ≡ Some file → ⊥
some_none file e = cc

listed_good : Known → (symbols : Option (List Symbol)) (epochs : Epochs) (event : Rattle.sample_key.specs.declared.events.Event.Event) (csv : Rattle.std.specs.Prelude.Bool) (disk : Disk)
    (head : Head) (file : FileRef) (text : List ℕ) → OpenedWith disk head → IsListingOf symbols epochs event csv disk head text
    → ToldFirst epochs (code_of event) disk (Some file) → ⊥
listed_good laws symbols epochs event csv disk head file text opened listed told =
    let same : head ≡ told.head = same_head laws disk.old told.files head told.head opened told.told told.has_head in
    some_none file (sym (listed.good told.files told.told) ∙ (ap (λ (h : Head). first_bad told.files (wanted h epochs (code_of event))) same ∙ told.is_first))

image_file : Known → (epochs : Epochs) (event : Rattle.sample_key.specs.declared.events.Event.Event) (csv : Rattle.std.specs.Prelude.Bool) (input : Stream) (disk : Disk) (file : FileRef)
    → ToldFirst epochs (code_of event) disk (Some file) → (r : Refusal) → IsCause (ProfImage epochs event csv) input disk r → (r ≡ DatabaseBad file) ⊎ IsFree r
image_file laws epochs event csv input disk file told Usage cause = absurd cause
image_file laws epochs event csv input disk file told (TraceBad a b) cause = absurd cause.0
image_file laws epochs event csv input disk file told ReadFault cause = inr tt
image_file laws epochs event csv input disk file told StoreFault cause = inr tt
image_file laws epochs event csv input disk file told WriteFault cause = absurd cause
image_file laws epochs event csv input disk file told Memory cause = inr tt
image_file laws epochs event csv input disk file told (DatabaseBad other) cause = elim cause.2 [
  | inl bad ↦ absurd (not_bad disk.old told.files told.head other bad.bad told.told told.has_head)
  | inr found ↦ inl (same_file other file (first_found laws epochs (code_of event) disk other (Some file) found told))
]
image_file laws epochs event csv input disk file told (Full what held added) cause = absurd cause.1
image_file laws epochs event csv input disk file told (SymbolBad a b) cause = absurd cause.0
image_file laws epochs event csv input disk file told (NoSuchEpoch epoch last) cause = absurd (no_epoch laws epochs (code_of event) disk epoch last (Some file) cause.0 told)

procedure_file : Known → (epochs : Epochs) (event : Rattle.sample_key.specs.declared.events.Event.Event) (csv : Rattle.std.specs.Prelude.Bool) (input : Stream) (disk : Disk) (file : FileRef)
    (list : List Symbol) → Rattle.dcpi_top.specs.Inputs.IsToldList input list → ToldFirst epochs (code_of event) disk (Some file)
    → (r : Refusal) → IsCause (ProfProcedure epochs event csv) input disk r → (r ≡ DatabaseBad file) ⊎ IsFree r
procedure_file laws epochs event csv input disk file list read told Usage cause = absurd cause
procedure_file laws epochs event csv input disk file list read told (TraceBad a b) cause = absurd cause.0
procedure_file laws epochs event csv input disk file list read told ReadFault cause = inr tt
procedure_file laws epochs event csv input disk file list read told StoreFault cause = inr tt
procedure_file laws epochs event csv input disk file list read told WriteFault cause = absurd cause
procedure_file laws epochs event csv input disk file list read told Memory cause = inr tt
procedure_file laws epochs event csv input disk file list read told (DatabaseBad other) cause = elim cause.2 [
  | inl bad ↦ absurd (not_bad disk.old told.files told.head other bad.bad told.told told.has_head)
  | inr found ↦ inl (same_file other file (first_found laws epochs (code_of event) disk other (Some file) found.1 told))
]
procedure_file laws epochs event csv input disk file list read told (Full what held added) cause = absurd cause.1
procedure_file laws epochs event csv input disk file list read told (SymbolBad a b) cause = absurd (no_bad_symbol laws input.old a b list cause.2 read)
procedure_file laws epochs event csv input disk file list read told (NoSuchEpoch epoch last) cause = absurd (no_epoch laws epochs (code_of event) disk epoch last (Some file) cause.0 told)

-- the same of a text of the whole database
whole_good : Known → (first : Head → Files → Option FileRef) (IsTextFor : Database → List ℕ → Type 0) (disk : Disk) (file : FileRef) (text : List ℕ)
    → IsWholeText first IsTextFor disk text → ToldWhole first disk (Some file) → ⊥
whole_good laws first IsTextFor disk file text is told =
    let same : is.head ≡ told.head = same_head laws disk.old told.files is.head told.head is.opened told.told told.has_head in
    some_none file (sym (is.good told.files told.told) ∙ (ap (λ (h : Head). first h told.files) same ∙ told.is_first))

whole_file : Known → (first : Head → Files → Option FileRef) (disk : Disk) (file other : FileRef) → ToldWhole first disk (Some file)
    → Rattle.dcpi_top.specs.Heads.HasBadHead disk other ⊎ FindsFirst first disk other → DatabaseBad other ≡ DatabaseBad file
whole_file laws first disk file other told (inl bad) = absurd (not_bad disk.old told.files told.head other bad told.told told.has_head)
whole_file laws first disk file other told (inr found) = same_file other file (whole_found laws first disk other (Some file) found told)

cat_file : Known → (input : Stream) (disk : Disk) (file : FileRef) → ToldWhole bad_profile disk (Some file)
    → (r : Refusal) → IsCause Cat input disk r → (r ≡ DatabaseBad file) ⊎ IsFree r
cat_file laws input disk file told Usage cause = absurd cause
cat_file laws input disk file told (TraceBad a b) cause = absurd cause.0
cat_file laws input disk file told ReadFault cause = inr tt
cat_file laws input disk file told StoreFault cause = inr tt
cat_file laws input disk file told WriteFault cause = absurd cause
cat_file laws input disk file told Memory cause = inr tt
cat_file laws input disk file told (DatabaseBad other) cause = inl (elim cause.2 [
  | inl bad ↦ whole_file laws bad_profile disk file other told (inl bad.bad)
  | inr found ↦ whole_file laws bad_profile disk file other told (inr found)
])
cat_file laws input disk file told (Full what held added) cause = absurd cause.1
cat_file laws input disk file told (SymbolBad a b) cause = absurd cause.0
cat_file laws input disk file told (NoSuchEpoch epoch last) cause = absurd cause.0

runs_file : Known → (input : Stream) (disk : Disk) (file : FileRef) → ToldWhole bad_segment disk (Some file)
    → (r : Refusal) → IsCause Runs input disk r → (r ≡ DatabaseBad file) ⊎ IsFree r
runs_file laws input disk file told Usage cause = absurd cause
runs_file laws input disk file told (TraceBad a b) cause = absurd cause.0
runs_file laws input disk file told ReadFault cause = inr tt
runs_file laws input disk file told StoreFault cause = inr tt
runs_file laws input disk file told WriteFault cause = absurd cause
runs_file laws input disk file told Memory cause = inr tt
runs_file laws input disk file told (DatabaseBad other) cause = inl (elim cause.2 [
  | inl bad ↦ whole_file laws bad_segment disk file other told (inl bad.bad)
  | inr found ↦ whole_file laws bad_segment disk file other told (inr found)
])
runs_file laws input disk file told (Full what held added) cause = absurd cause.1
runs_file laws input disk file told (SymbolBad a b) cause = absurd cause.0
runs_file laws input disk file told (NoSuchEpoch epoch last) cause = absurd cause.0

-- ---- a part at which a replay stops

run_text : Known → (input : Stream) (disk : Disk) (fault : DbFault) → is_found_before fault ≡ true → MustStop input disk fault
    → (text : List ℕ) → IsReplayText input disk text → ⊥
run_text laws input disk fault before must text is =
    let one : is.recording ≡ must.recording = same_trace laws input.old is.recording must.recording is.reads must.reads in
    let same : is.head ≡ must.head = same_head laws disk.old must.files is.head must.head is.opened must.told must.has_head in
    let (after, new, now, has, heads, whole) = is.grown must.files must.told in
    let ends : EndsWith is.recording is.outcome.kept is.head must.files new after = record { heads = heads; grown = whole } in
    no_end laws must.recording (run_of must.recording must.head) must.head must.files must.has_head (images_apart input.old must.recording must.reads)
    new must.grown after fault before must.stops.0 must.stops.1 has
    (subst (λ h. EndsWith must.recording (run_of must.recording h) h must.files new after) same
    (subst (λ r. EndsWith r (run_of r is.head) is.head must.files new after) one
    (subst (λ kept. EndsWith is.recording kept is.head must.files new after) is.run.kept ends)))

one_run : Known → (input : Stream) (disk : Disk) (told found : DbFault) → is_found_before told ≡ true → is_found_before found ≡ true
    → MustStop input disk told → StopsRun input disk found → found ≡ told
one_run laws input disk told found before_told before_found must run =
    let one : run.recording ≡ must.recording = same_trace laws input.old run.recording must.recording run.reads must.reads in
    let same : run.head ≡ must.head = same_head laws disk.old must.files run.head must.head run.opened must.told must.has_head in
    let (c, now, (parts, at)) = run.stops must.files must.told in
    one_stop laws must.recording (run_of must.recording must.head) must.head must.files must.has_head (images_apart input.old must.recording must.reads)
    must.grown c told found before_told before_found must.stops.0 parts must.stops.1
    (subst (λ h. StopsAt must.recording (run_of must.recording h) parts h must.files c found) same
    (subst (λ r. StopsAt r (run_of r run.head) parts run.head must.files c found) one at))

-- the refusal of a fault
abbrev as_refusal : DbFault → Refusal
as_refusal faults.StoreFault = StoreFault
as_refusal (faults.Bad file) = DatabaseBad file
as_refusal (faults.Full what held added) = Full what held added
as_refusal faults.Memory = Memory

stop_cause : Known → (input : Stream) (disk : Disk) (owed : Refusal) (fault : DbFault) → as_refusal fault ≡ owed → is_found_before fault ≡ true
    → MustStop input disk fault → (r : Refusal) → IsCause Replay input disk r → (r ≡ owed) ⊎ IsFree r
stop_cause laws input disk owed fault is before must Usage cause = absurd cause
stop_cause laws input disk owed fault is before must (TraceBad a b) cause = absurd (no_bad_line laws input.old a b must.recording cause.2 must.reads)
stop_cause laws input disk owed fault is before must ReadFault cause = inr tt
stop_cause laws input disk owed fault is before must StoreFault cause = inr tt
stop_cause laws input disk owed fault is before must WriteFault cause = absurd cause
stop_cause laws input disk owed fault is before must Memory cause = inr tt
stop_cause laws input disk owed fault is before must (DatabaseBad other) cause = elim cause.2 [
  | inl bad ↦ absurd (not_bad disk.old must.files must.head other bad.bad must.told must.has_head)
  | inr run ↦ inl (ap as_refusal (one_run laws input disk fault (faults.Bad other) before refl must run) ∙ is)
]
stop_cause laws input disk owed fault is before must (Full what held added) cause =
    inl (ap as_refusal (one_run laws input disk fault (faults.Full what held added) before refl must cause.1) ∙ is)
stop_cause laws input disk owed fault is before must (SymbolBad a b) cause = absurd cause.0
stop_cause laws input disk owed fault is before must (NoSuchEpoch epoch last) cause = absurd cause.0

owed_stop : Known → (input : Stream) (disk : Disk) (output : Stream) (refusal : Option Refusal) (owed : Refusal) (fault : DbFault) → as_refusal fault ≡ owed
    → is_found_before fault ≡ true → Serves Replay input disk output refusal → MustStop input disk fault → IsRefusedAs owed refusal
owed_stop laws input disk output refusal owed fault is before serves must = by_cause Replay input disk output refusal owed serves
    (run_text laws input disk fault before must) (stop_cause laws input disk owed fault is before must)

owed_full : Known → (command : Command) (input : Stream) (disk : Disk) (output : Stream) (refusal : Option Refusal) (what : Rattle.database_state.specs.declared.faults.FullWhat.FullWhat)
    (held added : ℕ) → Serves command input disk output refusal → Rattle.dcpi_top.specs.Owing.MustBeFull command input disk what held added
    → IsRefusedAs (Full what held added) refusal
owed_full laws Plain input disk output refusal what held added serves must = absurd must
owed_full laws Replay input disk output refusal what held added serves must = owed_stop laws input disk output refusal (Full what held added) (faults.Full what held added) refl refl serves must
owed_full laws (ProfImage epochs event csv) input disk output refusal what held added serves must = absurd must
owed_full laws (ProfProcedure epochs event csv) input disk output refusal what held added serves must = absurd must
owed_full laws Cat input disk output refusal what held added serves must = absurd must
owed_full laws Runs input disk output refusal what held added serves must = absurd must
owed_full laws Tidy input disk output refusal what held added serves must = absurd must
owed_full laws (Make seed samples trace) input disk output refusal what held added serves must = absurd must

-- ---- all of them

owed_file : Known → (command : Command) (input : Stream) (disk : Disk) (output : Stream) (refusal : Option Refusal) (file : FileRef)
    → Serves command input disk output refusal → Rattle.dcpi_top.specs.Owing.MustFind command input disk file → IsRefusedAs (DatabaseBad file) refusal
owed_file laws Plain input disk output refusal file serves must = absurd must
owed_file laws Replay input disk output refusal file serves must = owed_stop laws input disk output refusal (DatabaseBad file) (faults.Bad file) refl refl serves must
owed_file laws (ProfImage epochs event csv) input disk output refusal file serves must = by_cause (ProfImage epochs event csv) input disk output refusal (DatabaseBad file) serves
    (λ text is. listed_good laws None epochs event csv disk is.head file text is.opened is.listed must) (image_file laws epochs event csv input disk file must)
owed_file laws (ProfProcedure epochs event csv) input disk output refusal file serves must = by_cause (ProfProcedure epochs event csv) input disk output refusal (DatabaseBad file) serves
    (λ text is. listed_good laws (Some is.symbols) epochs event csv disk is.head file text is.opened is.listed must.1)
    (procedure_file laws epochs event csv input disk file must.0.0 must.0.1 must.1)
owed_file laws Cat input disk output refusal file serves must = by_cause Cat input disk output refusal (DatabaseBad file) serves
    (λ text is. whole_good laws bad_profile Rattle.counts_listing.specs.Counting.IsTextOf disk file text is must) (cat_file laws input disk file must)
owed_file laws Runs input disk output refusal file serves must = by_cause Runs input disk output refusal (DatabaseBad file) serves
    (λ text is. whole_good laws bad_segment Rattle.dcpi_top.specs.Listings.IsRunsTextOf disk file text is must) (runs_file laws input disk file must)
owed_file laws Tidy input disk output refusal file serves must = absurd must
owed_file laws (Make seed samples trace) input disk output refusal file serves must = absurd must

owed_epoch : Known → (command : Command) (input : Stream) (disk : Disk) (output : Stream) (refusal : Option Refusal) (epoch last : ℕ)
    → Serves command input disk output refusal → Rattle.dcpi_top.specs.Owing.IsToldMissing command disk epoch last → IsRefusedAs (NoSuchEpoch epoch last) refusal
owed_epoch laws Plain input disk output refusal epoch last serves told = absurd told
owed_epoch laws Replay input disk output refusal epoch last serves told = absurd told
owed_epoch laws (ProfImage epochs event csv) input disk output refusal epoch last serves told = by_cause (ProfImage epochs event csv) input disk output refusal (NoSuchEpoch epoch last) serves
    (λ text is. told_above laws epochs disk epoch last is.head told is.opened is.there) (image_epoch laws epochs event csv input disk epoch last told)
owed_epoch laws (ProfProcedure epochs event csv) input disk output refusal epoch last serves told = by_cause (ProfProcedure epochs event csv) input disk output refusal (NoSuchEpoch epoch last) serves
    (λ text is. told_above laws epochs disk epoch last is.head told is.opened is.there) (procedure_epoch laws epochs event csv input disk epoch last told)
owed_epoch laws Cat input disk output refusal epoch last serves told = absurd told
owed_epoch laws Runs input disk output refusal epoch last serves told = absurd told
owed_epoch laws Tidy input disk output refusal epoch last serves told = absurd told
owed_epoch laws (Make seed samples trace) input disk output refusal epoch last serves told = absurd told

owed_symbol : Known → (command : Command) (input : Stream) (disk : Disk) (output : Stream) (refusal : Option Refusal) (line : ℕ) (why : SymbolWhy)
    → Serves command input disk output refusal → IsOwed command input disk (SymbolBad line why) → IsRefusedAs (SymbolBad line why) refusal
owed_symbol laws Plain input disk output refusal line why serves owed = absurd owed.0
owed_symbol laws Replay input disk output refusal line why serves owed = absurd owed.0
owed_symbol laws (ProfImage epochs event csv) input disk output refusal line why serves owed = absurd owed.0
owed_symbol laws (ProfProcedure epochs event csv) input disk output refusal line why serves owed = by_cause (ProfProcedure epochs event csv) input disk output refusal (SymbolBad line why) serves
    (λ text is. no_symbols laws input.old line why is.symbols is.reads owed.2) (symbol_cause laws epochs event csv input disk line why owed.1 owed.2)
owed_symbol laws Cat input disk output refusal line why serves owed = absurd owed.0
owed_symbol laws Runs input disk output refusal line why serves owed = absurd owed.0
owed_symbol laws Tidy input disk output refusal line why serves owed = absurd owed.0
owed_symbol laws (Make seed samples trace) input disk output refusal line why serves owed = absurd owed.0

pub owed_is_answered : Known → (command : Command) (input : Stream) (disk : Disk) (output : Stream) (refusal : Option Refusal) (owed : Refusal)
    → Serves command input disk output refusal → IsOwed command input disk owed → IsRefusedAs owed refusal
owed_is_answered laws command input disk output refusal Usage serves owed = absurd owed
owed_is_answered laws command input disk output refusal (TraceBad line why) serves owed = by_cause command input disk output refusal (TraceBad line why) serves
    (trace_text laws command input disk line why owed.0 owed.2) (trace_cause laws command input disk line why owed.0 owed.1 owed.2)
owed_is_answered laws command input disk output refusal ReadFault serves owed = absurd owed
owed_is_answered laws command input disk output refusal StoreFault serves owed = absurd owed
owed_is_answered laws command input disk output refusal WriteFault serves owed = absurd owed
owed_is_answered laws command input disk output refusal Memory serves owed = absurd owed
owed_is_answered laws command input disk output refusal (DatabaseBad file) serves owed = elim owed.1 [
  | inl head ↦ by_cause command input disk output refusal (DatabaseBad file) serves
      (head_text_none command input disk file owed.0 head) (head_cause command input disk file owed.0 head)
  | inr must ↦ owed_file laws command input disk output refusal file serves must
]
owed_is_answered laws command input disk output refusal (Full what held added) serves owed = owed_full laws command input disk output refusal what held added serves owed
owed_is_answered laws command input disk output refusal (SymbolBad line why) serves owed = owed_symbol laws command input disk output refusal line why serves owed
owed_is_answered laws command input disk output refusal (NoSuchEpoch epoch last) serves owed = owed_epoch laws command input disk output refusal epoch last serves owed
