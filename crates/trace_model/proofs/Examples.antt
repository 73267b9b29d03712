-- The definitions at worked examples, by computation alone.
use Rattle.std.specs.Fmt.{digits}
use Rattle.std.proofs.Common.{◌≡◌, ℕ, ◌%◌, ◌++◌, true, List, [], ◌∷◌, Option, Some, None, Result, Ok, Err, refl, codes}
use Rattle.sample_key.specs.declared.events.Event.{Event}
use Rattle.sample_key.specs.declared.events.Event.TheVariants.{Cycles, Imiss}
use Rattle.trace_model.specs.declared.reasons.TraceWhy.{TraceWhy}
use Rattle.trace_model.specs.declared.reasons.TraceWhy.TheVariants.{NotHeader, BadWord, AfterEnd, BadNumber, OutOfRange, Unaligned, BadName, NoSuchCpu, ScanTooLate}
use Rattle.trace_model.specs.declared.notices.Record.{Record}
use Rattle.trace_model.specs.declared.notices.Record.TheVariants.{Load, Unload, Exec, Exit, Kernel, Drain, Merge, Epoch}
use Rattle.trace_model.specs.declared.notices.Line.{Line}
use Rattle.trace_model.specs.declared.notices.Line.TheVariants.{Sample, Rec}
use Rattle.trace_model.specs.Said.{Said, LongHeader, Loaded, Ended, line_text}
use Rattle.trace_model.specs.Grammar.{verdict, said_by}
use Rattle.trace_model.specs.Recording.{recording, are_good, said_in}
use Rattle.trace_model.specs.Attribution.{place_at}
use Rattle.trace_model.specs.Parts.{part_of}
use Rattle.trace_model.specs.Counting.{Known, Unknown, spots_in, rows_text}

abbrev going_on : Result (Said ℕ) TraceWhy → (Said ℕ → Option (Result (Said ℕ) TraceWhy)) → Option (Result (Said ℕ) TraceWhy)
going_on (Ok said) go = go said
going_on (Err why) go = None

-- what the last of these lines is judged to be, after what those before it say
abbrev last_verdict : List (Said ℕ) → List (List ℕ) → Option (Result (Said ℕ) TraceWhy)
last_verdict before [] = None
last_verdict before (line ∷ []) = Some (verdict before line)
last_verdict before (line ∷ next ∷ lines) = going_on (verdict before line) (λ said. last_verdict (before ++ said ∷ []) (next ∷ lines))

-- the last of these lines is the first bad one, for this reason
abbrev refused : TraceWhy → List (List ℕ) → Type 0
refused why lines = last_verdict [] lines ≡ Some (Err why)

-- these lines are good, and say this
abbrev good : List (List ℕ) → List (Said ℕ) → Type 0
good lines said = said_by [] lines ≡ Some said

abbrev header : List ℕ
header = codes "dcpi-trace 1 cpus 1"

-- the table of refusals
other_version : refused NotHeader (codes "dcpi-trace 2 cpus 1" ∷ [])
other_version = refl

no_cpus : refused OutOfRange (codes "dcpi-trace 1 cpus 0" ∷ [])
no_cpus = refl

odd_table : refused OutOfRange (codes "dcpi-trace 1 cpus 1 buckets 3 buffer 8" ∷ [])
odd_table = refl

needless_zero : refused BadNumber (codes "dcpi-trace 1 cpus 01" ∷ [])
needless_zero = refl

sample_after_end : refused AfterEnd (header ∷ codes "end" ∷ codes "s 0 7 1000 cycles" ∷ [])
sample_after_end = refl

no_such_cpu : refused NoSuchCpu (header ∷ codes "s 1 7 1000 cycles" ∷ [])
no_such_cpu = refl

no_such_event : refused BadWord (header ∷ codes "s 0 7 1000 stalls" ∷ [])
no_such_event = refl

upper_case : refused BadNumber (header ∷ codes "s 0 7 100C cycles" ∷ [])
upper_case = refl

empty_mapping : refused OutOfRange (header ∷ codes "load 7 0 0 A" ∷ [])
empty_mapping = refl

highest_mapping : good (header ∷ codes "load 7 fffffffffffffff8 4 A" ∷ codes "end" ∷ []) (LongHeader 1 4096 8192 ∷ Loaded 7 18446744073709551608 4 (codes "A") ∷ Ended ∷ [])
highest_mapping = refl

mapping_past_the_end : refused OutOfRange (header ∷ codes "load 7 fffffffffffffff8 8 A" ∷ [])
mapping_past_the_end = refl

late_scan : refused ScanTooLate (header ∷ codes "drain" ∷ codes "scan 7 0 4 A" ∷ [])
late_scan = refl

fourth_cell : refused OutOfRange (header ∷ codes "end" ∷ codes "d 0 3" ∷ [])
fourth_cell = refl

unaligned : refused Unaligned (header ∷ codes "s 0 7 1002 cycles" ∷ [])
unaligned = refl

no_name : refused BadName (header ∷ codes "load 7 0 4 " ∷ [])
no_name = refl

-- a sample of processor 0
abbrev sample : (pid pc : ℕ) → Event → pc % 4 ≡ 0 → Line
sample pid pc event aligned = Sample 0 (record { pid = pid; pc = pc; event = event; aligned = aligned })

-- three samples of one place
three_alike : spots_in (recording 1 4096 8192 (codes "/bin/app" ∷ [])
    (Rec (Load 7 0x10000 0x2000 0) ∷ sample 7 0x10008 Cycles refl ∷ sample 7 0x10008 Cycles refl ∷ sample 7 0x10008 Cycles refl ∷ []) []) 0
    ≡ Known 0 (codes "/bin/app") Cycles 8 ∷ Known 0 (codes "/bin/app") Cycles 8 ∷ Known 0 (codes "/bin/app") Cycles 8 ∷ []
three_alike = refl

three_alike_text : rows_text (record { spot = Known 0 (codes "/bin/app") Cycles 8; count = 3 } ∷ []) ≡ codes "k 0 /bin/app cycles 8 3\n"
unfolding digits
three_alike_text = refl

-- the end of a mapping is outside it
boundary : spots_in (recording 1 4096 8192 (codes "A" ∷ [])
    (Rec (Load 7 0x10000 0x1000 0) ∷ sample 7 0x10ffc Imiss refl ∷ sample 7 0x11000 Imiss refl ∷ []) []) 0
    ≡ Known 0 (codes "A") Imiss 0xffc ∷ Unknown 0 Imiss 0x11000 ∷ []
boundary = refl

boundary_text : rows_text (record { spot = Known 0 (codes "A") Imiss 0xffc; count = 1 } ∷ record { spot = Unknown 0 Imiss 0x11000; count = 1 } ∷ []) ≡ codes "k 0 A imiss ffc 1\nu 0 imiss 11000 1\n"
unfolding digits
boundary_text = refl

-- a sample lies where the records before it say, whatever comes later
map_changed_since : spots_in (recording 1 4096 8192 (codes "A" ∷ codes "B" ∷ [])
    (Rec (Load 7 0x10000 0x1000 0) ∷ sample 7 0x10004 Cycles refl ∷ Rec (Unload 7 0x10000 0x1000) ∷ Rec (Load 7 0x10000 0x1000 1) ∷ []) []) 0
    ≡ Known 0 (codes "A") Cycles 4 ∷ []
map_changed_since = refl

-- exec takes the place of all mappings, the kernel stands behind them, and a process with none has none
exec_kernel_stranger : spots_in (recording 1 4096 8192 (codes "vmunix" ∷ codes "old" ∷ codes "new" ∷ [])
    (Rec (Kernel 0xfffffc0000230000 0x10000 0) ∷ Rec (Load 7 0x120000000 0x1000 1) ∷ Rec (Exec 7 0x120000000 0x2000 2)
    ∷ sample 7 0x120000010 Cycles refl ∷ sample 7 0xfffffc0000230020 Cycles refl ∷ sample 9 0x120000010 Cycles refl ∷ []) []) 0
    ≡ Known 0 (codes "new") Cycles 0x10 ∷ Known 0 (codes "vmunix") Cycles 0x20 ∷ Unknown 0 Cycles 0x120000010 ∷ []
exec_kernel_stranger = refl

-- an older mapping is not found behind an unload
unloaded : spots_in (recording 1 4096 8192 (codes "A" ∷ []) (Rec (Load 7 0 8 0) ∷ Rec (Unload 7 0 4) ∷ sample 7 0 Cycles refl ∷ sample 7 4 Cycles refl ∷ []) []) 0
    ≡ Unknown 0 Cycles 0 ∷ Known 0 (codes "A") Cycles 4 ∷ []
unloaded = refl

-- the same address at each moment: before the mapping, in it, after an unload of its front, and after an exec
abbrev records : List Record
records = Load 7 0x10000 0x1000 0 ∷ Unload 7 0x10000 4 ∷ Exec 7 0x20000 0x1000 1 ∷ []

not_yet : place_at records 0 7 0x10000 ≡ None
not_yet = refl

mapped : place_at records 1 7 0x10000 ≡ Some (record { image = 0; offset = 0 })
mapped = refl

not_of_another_process : place_at records 1 8 0x10000 ≡ None
not_of_another_process = refl

unmapped : place_at records 2 7 0x10000 ≡ None
unmapped = refl

behind_the_unload : place_at records 2 7 0x10004 ≡ Some (record { image = 0; offset = 4 })
behind_the_unload = refl

gone_with_exec : place_at records 3 7 0x10004 ≡ None
gone_with_exec = refl

mapped_by_exec : place_at records 3 7 0x20ffc ≡ Some (record { image = 1; offset = 0xffc })
mapped_by_exec = refl

-- a moment past the last record is that of all
all_in_force : place_at records 9 7 0x20000 ≡ Some (record { image = 1; offset = 0 })
all_in_force = refl

-- parts end at a merge and at an epoch
abbrev parted : List Record
parted = Drain ∷ Merge ∷ Exit 7 ∷ Epoch ∷ Merge ∷ []

parts : part_of parted 0 ∷ part_of parted 1 ∷ part_of parted 2 ∷ part_of parted 3 ∷ part_of parted 4 ∷ part_of parted 5 ∷ [] ≡ 0 ∷ 0 ∷ 1 ∷ 1 ∷ 2 ∷ 3 ∷ []
parts = refl

-- two epochs
two_epochs : spots_in (recording 1 4096 8192 (codes "A" ∷ [])
    (Rec (Load 7 0x10000 0x1000 0) ∷ sample 7 0x10000 Cycles refl ∷ Rec Epoch ∷ sample 7 0x10000 Cycles refl ∷ []) []) 0
    ≡ Known 0 (codes "A") Cycles 0 ∷ Known 1 (codes "A") Cycles 0 ∷ []
two_epochs = refl

-- a trace's own facts, and its lines as they are written
two_epochs_good : are_good [] (said_in (recording 1 4096 8192 (codes "A" ∷ []) (Rec (Load 7 0x10000 0x1000 0) ∷ sample 7 0x10000 Cycles refl ∷ Rec Epoch ∷ []) [])) ≡ true
two_epochs_good = refl

long_header_text : line_text (LongHeader 4 4096 8192) ≡ codes "dcpi-trace 1 cpus 4 buckets 4096 buffer 8192"
unfolding digits
long_header_text = refl
