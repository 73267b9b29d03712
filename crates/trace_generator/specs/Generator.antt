-- The trace of a seed: what each of its lines says, in order.
use Rattle.std.specs.Prelude.{ℕ, zero, suc, ◌+◌, ◌*◌, ◌%◌, ◌==◌, nat_le, if◌then◌else◌, List, [], ◌∷◌, ◌++◌, codes}
use Rattle.std.specs.Fmt.{decimal}
use Rattle.sample_key.specs.declared.events.Event.{Event}
use Rattle.sample_key.specs.declared.events.Event.TheVariants.{Cycles, Imiss, Dmiss, Branchmp}
use Rattle.trace_model.specs.Said.{Said, LongHeader, Sampled, Scanned, KernelMapped, Drained, Merged, Ended}
use Rattle.trace_generator.specs.Draws.{draw, state_after}

-- the image of a process's program
abbrev pub program_of : ℕ → List ℕ
program_of pid = codes "prog" ++ decimal (pid % 4)

-- what was found mapped in a process at startup
abbrev pub scans_of : ℕ → List (Said ℕ)
scans_of pid =
    Scanned pid 0x120000000 0x40000 (program_of pid)
    ∷ Scanned pid 0x3ff80000000 0x100000 (codes "libc.so")
    ∷ []

-- in each of the processes 1 to n
abbrev pub scans_to : ℕ → List (Said ℕ)
scans_to zero = []
scans_to (suc n) = scans_to n ++ scans_of (suc n)

-- the first records: the mapping of the kernel, and those of the processes 1 to 8
abbrev pub mapped_first : List (Said ℕ)
mapped_first = KernelMapped 0xfffffc0000000000 0x400000 (codes "vmunix") ∷ scans_to 8

-- the program counter of a sample by its kind: in the kernel, the library, the program, or where nothing is mapped
abbrev pub address_of : ℕ → ℕ → ℕ
address_of kind d =
    if nat_le kind 1 then 0xfffffc0000000000 + 4 * (d % 1024)
    else (if nat_le kind 7 then 0x3ff80000000 + 4 * (d % 512)
    else (if nat_le kind 14 then 0x120000000 + 4 * (d % 256)
    else 0x500000000 + 4 * (d % 64)))

-- the event of a sample by its choice of eight
abbrev pub event_of : ℕ → Event
event_of choice =
    if nat_le choice 4 then Cycles
    else (if choice == 5 then Imiss
    else (if choice == 6 then Dmiss
    else Branchmp))

-- a sample by its five draws: processor, process, kind, program counter, event
abbrev pub sample_of : ℕ → ℕ → ℕ → ℕ → ℕ → Said ℕ
sample_of d1 d2 d3 d4 d5 =
    Sampled (d1 % 4) (1 + d2 % 8) (address_of (d3 % 16) d4) (event_of (d5 % 8))

-- the sample that is made from this state on
abbrev pub sample_from : ℕ → Said ℕ
sample_from state =
    sample_of (draw state 1) (draw state 2) (draw state 3) (draw state 4) (draw state 5)

-- a record behind each sample whose number is a multiple
abbrev pub every_so_often : ℕ → Said ℕ → ℕ → List (Said ℕ)
every_so_often period notice number = if number % period == 0 then notice ∷ [] else []

-- the records behind a sample, which are counted from 1
abbrev pub records_after : ℕ → List (Said ℕ)
records_after number = every_so_often 10000 Drained number ++ every_so_often 100000 Merged number

-- the first samples, each with the records behind it; each takes the five draws after those of the samples before it
abbrev pub samples_to : ℕ → ℕ → List (Said ℕ)
samples_to seed zero = []
samples_to seed (suc n) = samples_to seed n ++ sample_from (state_after seed (5 * n)) ∷ records_after (suc n)

-- the trace of a seed with so many samples: 4 processors, 4,096 buckets, buffers of 8,192 entries, no schedule
abbrev pub made_trace : ℕ → ℕ → List (Said ℕ)
made_trace seed samples =
    LongHeader 4 4096 8192 ∷ (mapped_first ++ samples_to seed samples) ++ Ended ∷ []

-- the images of each made trace, in order of first use
abbrev pub image_names : List (List ℕ)
image_names =
    codes "vmunix" ∷ codes "prog1" ∷ codes "libc.so" ∷ codes "prog2" ∷ codes "prog3" ∷ codes "prog0" ∷ []
