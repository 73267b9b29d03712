-- Each line of a made trace passes the tests of its values.
use Rattle.std.proofs.Common.{◌≡◌, ℕ, ◌+◌, ◌*◌, ◌%◌, ◌^◌, ◌<◌, ◌≤◌, Bool, true, false, not, List, ◌∷◌, leb, refl, ap, arith, Option, Some, None, if◌then◌else◌}
use Rattle.std.specs.List.{count_by}
use Rattle.std.proofs.lemmas.Bool.{and_from, le-leb, lt-leb, lt-ltb, eq-eqb, or_from}
use Rattle.sample_key.specs.declared.events.Event.{Event}
use Rattle.trace_model.specs.declared.reasons.TraceWhy.{TraceWhy}
use Rattle.trace_model.specs.declared.reasons.TraceWhy.TheVariants.{OutOfRange, Unaligned, NoSuchCpu, TooManySamples, TooManyRecords}
use Rattle.trace_model.specs.Said.{Said, LongHeader, Sampled, Drained, Merged, Ended, is_sample, is_record, is_part_end, is_within, is_aligned, every, tested}
use Rattle.trace_model.specs.Grammar.{first_that_applies, value_tests}
use Rattle.trace_generator.specs.Generator.{address_of}

-- the header of a made trace
abbrev pub header : Said ℕ
header = LongHeader 4 4096 8192

-- the tests one after another
abbrev outcome : Bool → Bool → Bool → Bool → Option TraceWhy
outcome out askew cpu samples =
    if out then Some OutOfRange else (if askew then Some Unaligned else (if cpu then Some NoSuchCpu else (if samples then Some TooManySamples else None)))

-- a sample on one of four processors
pub sample_passes : (rest : List (Said ℕ)) (cpu pid pc : ℕ) (event : Event) → cpu < 4 → pid ≤ 4294967295 → pc < 2 ^ 64 → pc % 4 ≡ 0
    → count_by is_sample (header ∷ rest) < 2000000
    → first_that_applies (value_tests (header ∷ rest) (Sampled cpu pid pc event)) ≡ None
sample_passes rest cpu pid pc event c p w a n =
    let within : every is_within (tested (Sampled cpu pid pc event)) ≡ true
    = and_from _ _ (and_from _ _ (le-leb 0 cpu (omega arith)) (le-leb cpu 15 (omega arith)))
    (and_from _ _ (and_from _ _ (le-leb 0 pid (omega arith)) (le-leb pid 4294967295 p)) (lt-ltb pc (2 ^ 64) w)) in
    let aligned : every is_aligned (tested (Sampled cpu pid pc event)) ≡ true = eq-eqb (pc % 4) 0 a in
    λ i. outcome (not (within i)) (not (aligned i)) (lt-leb 4 cpu c i) (lt-leb 2000000 (count_by is_sample (header ∷ rest)) n i)

-- a record that ends no part
pub drain_passes : (rest : List (Said ℕ)) → count_by is_record (header ∷ rest) < 65536 → first_that_applies (value_tests (header ∷ rest) Drained) ≡ None
drain_passes rest n = ap (λ (b : Bool). if b then Some TooManyRecords else None) (lt-leb 65536 (count_by is_record (header ∷ rest)) n)

-- a record that ends a part
pub merge_passes : (rest : List (Said ℕ)) → count_by is_record (header ∷ rest) < 65536 → count_by is_part_end (header ∷ rest) < 1024
    → first_that_applies (value_tests (header ∷ rest) Merged) ≡ None
merge_passes rest n p = ap (λ (b : Bool). if b then Some TooManyRecords else None)
    (or_from _ _ (lt-leb 65536 (count_by is_record (header ∷ rest)) n) (lt-leb 1024 (count_by is_part_end (header ∷ rest)) p))

-- the end
pub end_passes : (rest : List (Said ℕ)) → first_that_applies (value_tests (header ∷ rest) Ended) ≡ None
end_passes rest = refl

-- what is drawn for a program counter is an address, and aligned
pub address_fits : (kind d : ℕ) → (address_of kind d < 2 ^ 64) × (address_of kind d % 4 ≡ 0)
address_fits kind d = by (leb kind 1) (leb kind 7) (leb kind 14)
  where
    by : (kernel library program : Bool)
        → ((if kernel then 0xfffffc0000000000 + 4 * (d % 1024) else (if library then 0x3ff80000000 + 4 * (d % 512) else (if program then 0x120000000 + 4 * (d % 256) else 0x500000000 + 4 * (d % 64)))) < 2 ^ 64)
        × ((if kernel then 0xfffffc0000000000 + 4 * (d % 1024) else (if library then 0x3ff80000000 + 4 * (d % 512) else (if program then 0x120000000 + 4 * (d % 256) else 0x500000000 + 4 * (d % 64)))) % 4 ≡ 0)
    by true library program = (omega arith, omega arith)
    by false true program = (omega arith, omega arith)
    by false false true = (omega arith, omega arith)
    by false false false = (omega arith, omega arith)
