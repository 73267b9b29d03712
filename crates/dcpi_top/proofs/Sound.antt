-- A call of which all is sound is refused for a fault or for want of memory alone.
use Rattle.std.proofs.Common.{◌≡◌, ◌≤◌, ◌<◌, ◌⊎◌, inl, inr, ℕ, true, List, refl, sym, subst, ap, arith, ◌∙◌}
use Rattle.std.specs.declared.option.Option.{Option}
use Rattle.std.specs.declared.option.Option.TheVariants.{Some, None}
use Rattle.std.specs.Prelude.{IfSome}
use Rattle.store_io.specs.Files.{Files}
use Rattle.store_io.specs.declared.file_refs.FileRef.{FileRef}
use Rattle.trace_model.specs.declared.reasons.TraceWhy.{TraceWhy}
use Rattle.trace_model.specs.Grammar.{FirstBad}
use Rattle.trace_model.specs.Recording.{Recording, Reads, said_in}
use Rattle.sample_key.specs.Events.{code_of}
use Rattle.symbol_ranges.specs.declared.symbols.Symbol.{Symbol}
use Rattle.symbol_ranges.specs.declared.refusals.SymbolWhy.{SymbolWhy}
use Rattle.symbol_ranges.specs.Lines as symbols
use Rattle.database_state.specs.Heads.{Head}
use Rattle.database_state.specs.Standing.{HaveHead}
use Rattle.database_state.specs.declared.faults.DbFault.{DbFault}
use Rattle.database_state.specs.declared.faults.DbFault.TheVariants as faults
use Rattle.dcpid_core.specs.Storing.{is_found_before}
use Rattle.dcpid_core.proofs.Images.{apart}
use Rattle.replay_drive.specs.Growing.{StopsAt}
use Rattle.report_text.specs.declared.epochs.Epochs.{Epochs}
use Rattle.report_text.specs.declared.epochs.Epochs.TheVariants.{One}
use Rattle.dcpiprof_report.specs.Reading.{first_bad, wanted}
use Rattle.dcpi_top.specs.declared.commands.Command.{Command}
use Rattle.dcpi_top.specs.declared.commands.Command.TheVariants.{Plain, Replay, ProfImage, ProfProcedure, Cat, Runs, Tidy, Make}
use Rattle.dcpi_top.specs.declared.refusals.Refusal.{Refusal}
use Rattle.dcpi_top.specs.declared.refusals.Refusal.TheVariants.{Usage, TraceBad, ReadFault, StoreFault, WriteFault, Memory, DatabaseBad, Full, SymbolBad, NoSuchEpoch}
use Rattle.dcpi_top.specs.Refusals.{status_in, status_of}
use Rattle.dcpi_top.specs.Streams.{Stream, Disk, HasFailed}
use Rattle.dcpi_top.specs.Inputs.{IsTold}
use Rattle.dcpi_top.specs.Heads.{AreThere, HasBadHead, IsBadHead}
use Rattle.dcpi_top.specs.Listings.{bad_profile, bad_segment}
use Rattle.dcpi_top.specs.Replays.{IsSoundReplay, StopsRun, run_of}
use Rattle.dcpi_top.specs.Causes.{FindsFirst, IsCause, LacksEpoch, ReadsBad}
use Rattle.dcpi_top.specs.Owing.{IsSound, ToldFirst, ToldWhole}
use Rattle.dcpi_top.specs.Answers.{Serves}
use Rattle.dcpi_top.proofs.Heading.{good_head}
use Rattle.dcpi_top.proofs.KnownLaws.{Known}
use Rattle.dcpi_top.proofs.Replayed.{of_told}

-- a trace has no first bad line
pub no_bad_line : Known → (o : Option (List ℕ)) (line : ℕ) (why : TraceWhy) (recording : Recording) → IfSome o (λ bytes. FirstBad bytes line why)
    → IsTold o (λ bytes. Reads bytes recording) → ⊥
no_bad_line laws None line why recording bad told = told
no_bad_line laws (Some bytes) line why recording bad told = laws.not_both bytes (recording, told) (line, why, bad)

-- nor has a symbol list
pub no_bad_symbol : Known → (o : Option (List ℕ)) (line : ℕ) (why : SymbolWhy) (list : List Symbol) → IfSome o (λ bytes. symbols.FirstBad bytes line why)
    → IsTold o (λ bytes. symbols.Reads bytes list) → ⊥
no_bad_symbol laws None line why list bad told = told
no_bad_symbol laws (Some bytes) line why list bad told = laws.no_list bytes (list, told) (line, why, bad)

-- an input is one trace
pub same_trace : Known → (o : Option (List ℕ)) (first second : Recording) → IfSome o (λ bytes. Reads bytes first) → IsTold o (λ bytes. Reads bytes second) → first ≡ second
same_trace laws None first second reads told = absurd told
same_trace laws (Some bytes) first second reads told = laws.one_trace bytes first second reads told

-- its images are apart
pub images_apart : (o : Option (List ℕ)) (recording : Recording) → IsTold o (λ bytes. Reads bytes recording) → Rattle.std.specs.List.IsDistinct Rattle.std.specs.Str.bytes_eq recording.images
images_apart None recording told = absurd told
images_apart (Some bytes) recording told = apart recording.images (said_in recording) told.images

-- a head that is told is the one with which the database was opened
pub same_head : Known → (o : Option Files) (f : Files) (h k : Head) → IfSome o (λ files. HaveHead files h) → o ≡ Some f → HaveHead f k → h ≡ k
same_head laws o f h k opened told has = laws.one_head f h k (of_told o (λ files. HaveHead files h) f opened told) has

-- a head that is told is not bad
pub not_bad : (o : Option Files) (f : Files) (h : Head) (file : FileRef) → IfSome o (λ files. IsBadHead files file) → o ≡ Some f → HaveHead f h → ⊥
not_bad o f h file bad told has = good_head f h file has (of_told o (λ files. IsBadHead files file) f bad told)

-- nor is one of files that are told
pub told_good : (o : Option Files) (h : Head) (file : FileRef) → IfSome o (λ f. IsBadHead f file) → IsTold o (λ f. HaveHead f h) → ⊥
told_good None h file bad told = told
told_good (Some f) h file bad told = good_head f h file told bad

-- an epoch that is there is not above the last one
pub there_is : (epochs : Epochs) (h k : Head) (epoch last : ℕ) → epochs ≡ One epoch → last ≡ h.epoch → last < epoch → h ≡ k → AreThere epochs k → ⊥
there_is epochs h k epoch last asked is above same there =
    let within : epoch ≤ k.epoch = subst (λ e. AreThere e k) asked there in omega (arith, is, above, within, ap (λ (x : Head). x.epoch) same)

pub no_epoch : Known → (epochs : Epochs) (event : ℕ) (disk : Disk) (epoch last : ℕ) (first : Option FileRef) → LacksEpoch epochs disk epoch last
    → ToldFirst epochs event disk first → ⊥
no_epoch laws epochs event disk epoch last first lacks told =
    there_is epochs lacks.head told.head epoch last lacks.asked lacks.is_last lacks.above
    (same_head laws disk.old told.files lacks.head told.head lacks.opened told.told told.has_head) told.there

-- the first bad file that was found is the one that is told
pub first_found : Known → (epochs : Epochs) (event : ℕ) (disk : Disk) (file : FileRef) (first : Option FileRef) → ReadsBad epochs event disk file
    → ToldFirst epochs event disk first → Some file ≡ first
first_found laws epochs event disk file first bad told =
    let same : bad.head ≡ told.head = same_head laws disk.old told.files bad.head told.head bad.opened told.told told.has_head in
    sym (bad.first told.files told.told) ∙ (ap (λ (h : Head). first_bad told.files (wanted h epochs event)) same ∙ told.is_first)

-- the same of a text of the whole database
pub whole_found : Known → (first : Head → Files → Option FileRef) (disk : Disk) (file : FileRef) (is : Option FileRef) → FindsFirst first disk file
    → ToldWhole first disk is → Some file ≡ is
whole_found laws first disk file is bad told =
    let same : bad.head ≡ told.head = same_head laws disk.old told.files bad.head told.head bad.opened told.told told.has_head in
    sym (bad.found told.files told.told) ∙ (ap (λ (h : Head). first h told.files) same ∙ told.is_first)

not_none : (file : FileRef) → Some file ≡ None → ⊥
not_none file e = cc

no_bad_file : Known → (first : Head → Files → Option FileRef) (disk : Disk) (file : FileRef) → HasBadHead disk file ⊎ FindsFirst first disk file
    → ToldWhole first disk None → ⊥
no_bad_file laws first disk file (inl bad) told = not_bad disk.old told.files told.head file bad told.told told.has_head
no_bad_file laws first disk file (inr bad) told = not_none file (whole_found laws first disk file None bad told)

-- a run that keeps the limits does not stop
pub goes_through : Known → (input : Stream) (disk : Disk) (fault : DbFault) → is_found_before fault ≡ true → StopsRun input disk fault → IsSoundReplay input disk → ⊥
goes_through laws input disk fault before run sound =
    let one : run.recording ≡ sound.recording = same_trace laws input.old run.recording sound.recording run.reads sound.reads in
    let same : run.head ≡ sound.head = same_head laws disk.old sound.files run.head sound.head run.opened sound.told sound.has_head in
    let (g, now, (parts, at)) = run.stops sound.files sound.told in
    laws.no_stop sound.recording (run_of sound.recording sound.head) parts sound.head sound.files g fault
    (images_apart input.old sound.recording sound.reads) sound.fits before
    (subst (λ h. StopsAt sound.recording (run_of sound.recording h) parts h sound.files g fault) same
    (subst (λ r. StopsAt r (run_of r run.head) parts run.head sound.files g fault) one at))

-- a bad file is not found where all is sound
file_is_good : Known → (command : Command) (input : Stream) (disk : Disk) (file : FileRef) → IsCause command input disk (DatabaseBad file)
    → IsSound command input disk → ⊥
file_is_good laws Plain input disk file cause sound = cause.0
file_is_good laws Replay input disk file cause sound = elim cause.2 [
  | inl head ↦ not_bad disk.old sound.files sound.head file head.bad sound.told sound.has_head
  | inr run ↦ goes_through laws input disk (faults.Bad file) refl run sound
]
file_is_good laws (ProfImage epochs event csv) input disk file cause sound = elim cause.2 [
  | inl head ↦ not_bad disk.old sound.files sound.head file head.bad sound.told sound.has_head
  | inr bad ↦ not_none file (first_found laws epochs (code_of event) disk file None bad sound)
]
file_is_good laws (ProfProcedure epochs event csv) input disk file cause sound = elim cause.2 [
  | inl head ↦ not_bad disk.old sound.1.files sound.1.head file head.bad sound.1.told sound.1.has_head
  | inr bad ↦ not_none file (first_found laws epochs (code_of event) disk file None bad.1 sound.1)
]
file_is_good laws Cat input disk file cause sound = elim cause.2 [
  | inl head ↦ no_bad_file laws bad_profile disk file (inl head.bad) sound
  | inr bad ↦ no_bad_file laws bad_profile disk file (inr bad) sound
]
file_is_good laws Runs input disk file cause sound = elim cause.2 [
  | inl head ↦ no_bad_file laws bad_segment disk file (inl head.bad) sound
  | inr bad ↦ no_bad_file laws bad_segment disk file (inr bad) sound
]
file_is_good laws Tidy input disk file cause sound = elim cause.2 [
  | inl head ↦ told_good disk.old sound.0 file head.bad sound.1
  | inr bad ↦ bad
]
file_is_good laws (Make seed samples trace) input disk file cause sound = cause.0

-- the line of a trace is not bad
line_is_good : Known → (command : Command) (input : Stream) (disk : Disk) (line : ℕ) (why : TraceWhy) → IsCause command input disk (TraceBad line why)
    → IsSound command input disk → ⊥
line_is_good laws Plain input disk line why cause sound = no_bad_line laws input.old line why sound.0 cause.2 sound.1
line_is_good laws Replay input disk line why cause sound = no_bad_line laws input.old line why sound.recording cause.2 sound.reads
line_is_good laws (ProfImage epochs event csv) input disk line why cause sound = cause.0
line_is_good laws (ProfProcedure epochs event csv) input disk line why cause sound = cause.0
line_is_good laws Cat input disk line why cause sound = cause.0
line_is_good laws Runs input disk line why cause sound = cause.0
line_is_good laws Tidy input disk line why cause sound = cause.0
line_is_good laws (Make seed samples trace) input disk line why cause sound = cause.0

-- nor is that of a symbol list
symbol_is_good : Known → (command : Command) (input : Stream) (disk : Disk) (line : ℕ) (why : SymbolWhy) → IsCause command input disk (SymbolBad line why)
    → IsSound command input disk → ⊥
symbol_is_good laws Plain input disk line why cause sound = cause.0
symbol_is_good laws Replay input disk line why cause sound = cause.0
symbol_is_good laws (ProfImage epochs event csv) input disk line why cause sound = cause.0
symbol_is_good laws (ProfProcedure epochs event csv) input disk line why cause sound = no_bad_symbol laws input.old line why sound.0.0 cause.2 sound.0.1
symbol_is_good laws Cat input disk line why cause sound = cause.0
symbol_is_good laws Runs input disk line why cause sound = cause.0
symbol_is_good laws Tidy input disk line why cause sound = cause.0
symbol_is_good laws (Make seed samples trace) input disk line why cause sound = cause.0

-- the epoch is there
epoch_is_there : Known → (command : Command) (input : Stream) (disk : Disk) (epoch last : ℕ) → IsCause command input disk (NoSuchEpoch epoch last)
    → IsSound command input disk → ⊥
epoch_is_there laws Plain input disk epoch last cause sound = cause.0
epoch_is_there laws Replay input disk epoch last cause sound = cause.0
epoch_is_there laws (ProfImage epochs event csv) input disk epoch last cause sound = no_epoch laws epochs (code_of event) disk epoch last None cause.0 sound
epoch_is_there laws (ProfProcedure epochs event csv) input disk epoch last cause sound = no_epoch laws epochs (code_of event) disk epoch last None cause.0 sound.1
epoch_is_there laws Cat input disk epoch last cause sound = cause.0
epoch_is_there laws Runs input disk epoch last cause sound = cause.0
epoch_is_there laws Tidy input disk epoch last cause sound = cause.0
epoch_is_there laws (Make seed samples trace) input disk epoch last cause sound = cause.0

-- there is room
room_is_there : Known → (command : Command) (input : Stream) (disk : Disk) (what : Rattle.database_state.specs.declared.faults.FullWhat.FullWhat) (held added : ℕ)
    → IsCause command input disk (Full what held added) → IsSound command input disk → ⊥
room_is_there laws Plain input disk what held added cause sound = cause.1
room_is_there laws Replay input disk what held added cause sound = goes_through laws input disk (faults.Full what held added) refl cause.1 sound
room_is_there laws (ProfImage epochs event csv) input disk what held added cause sound = cause.1
room_is_there laws (ProfProcedure epochs event csv) input disk what held added cause sound = cause.1
room_is_there laws Cat input disk what held added cause sound = cause.1
room_is_there laws Runs input disk what held added cause sound = cause.1
room_is_there laws Tidy input disk what held added cause sound = cause.1
room_is_there laws (Make seed samples trace) input disk what held added cause sound = cause.1

-- what was refused has a status of a fault or of memory
refused_soundly : Known → (command : Command) (input : Stream) (disk : Disk) (refusal : Refusal) → IsCause command input disk refusal → IsSound command input disk
    → (HasFailed input → ⊥) → (HasFailed disk → ⊥) → (status_of refusal ≡ 0) ⊎ (status_of refusal ≡ 6)
refused_soundly laws command input disk Usage cause sound read store = absurd cause
refused_soundly laws command input disk (TraceBad line why) cause sound read store = absurd (line_is_good laws command input disk line why cause sound)
refused_soundly laws command input disk ReadFault cause sound read store = absurd (read cause.1)
refused_soundly laws command input disk StoreFault cause sound read store = absurd (store cause.2)
refused_soundly laws command input disk WriteFault cause sound read store = absurd cause
refused_soundly laws command input disk Memory cause sound read store = inr refl
refused_soundly laws command input disk (DatabaseBad file) cause sound read store = absurd (file_is_good laws command input disk file cause sound)
refused_soundly laws command input disk (Full what held added) cause sound read store = absurd (room_is_there laws command input disk what held added cause sound)
refused_soundly laws command input disk (SymbolBad line why) cause sound read store = absurd (symbol_is_good laws command input disk line why cause sound)
refused_soundly laws command input disk (NoSuchEpoch epoch last) cause sound read store = absurd (epoch_is_there laws command input disk epoch last cause sound)

-- so the status is 0, or that of want of memory
pub served_soundly : Known → (command : Command) (input : Stream) (disk : Disk) (output : Stream) (refusal : Option Refusal)
    → Serves command input disk output refusal → IsSound command input disk → (HasFailed input → ⊥) → (HasFailed disk → ⊥) → (HasFailed output → ⊥)
    → (status_in refusal ≡ 0) ⊎ (status_in refusal ≡ 6)
served_soundly laws command input disk output None serves sound read store write = inl refl
served_soundly laws command input disk output (Some refusal) (inl refused) sound read store write =
    refused_soundly laws command input disk refusal refused.0 sound read store
served_soundly laws command input disk output (Some refusal) (inr failed) sound read store write = absurd (write failed.1.failed)
