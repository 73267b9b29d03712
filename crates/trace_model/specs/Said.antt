-- What a line of a trace says: a form of the format with its fields, as texts or as numbers.
use Rattle.std.specs.Prelude.{ℕ, ◌+◌, ◌%◌, ◌^◌, ◌==◌, ◌&&◌, ◌||◌, nat_le, nat_lt, Bool, true, false, not, List, [], ◌∷◌, codes, unwrap_or}
use Rattle.std.specs.declared.option.Option.{Option}
use Rattle.std.specs.declared.option.Option.TheVariants.{Some, None}
use Rattle.std.specs.List.{list_any, join_with_byte}
use Rattle.std.specs.Option.{option_map}
use Rattle.std.specs.Fmt.{digits, decimal}
use Rattle.text_num.specs.Names.{is_name}
use Rattle.text_num.specs.Numbers.{is_canonical, value_of}
use Rattle.sample_key.specs.declared.events.Event.{Event}
use Rattle.sample_key.specs.Events.{name_of}
use Rattle.sample_key.specs.declared.limits.TheConstants.{LAST_CELL, LAST_CPU}
use Rattle.trace_model.specs.declared.limits.TheConstants.{GREATEST_END, MOST_BUCKETS, MOST_CPUS, MOST_ENTRIES}
use Rattle.trace_model.specs.declared.notices.Record.{Record}
use Rattle.trace_model.specs.declared.notices.Record.TheVariants.{Scan, Load, Unload, Exec, Exit, Kernel, Drain, Merge, Epoch}
use Rattle.trace_model.specs.Parts.{ends_part}

-- a line, with its number fields as texts or as numbers
pub data Said (N : Type 0) : Type 0 where
  ShortHeader : N → Said N
  LongHeader : N → N → N → Said N
  Sampled : N → N → N → Event → Said N
  Scanned : N → N → N → List ℕ → Said N
  Loaded : N → N → N → List ℕ → Said N
  Unloaded : N → N → N → Said N
  Executed : N → N → N → List ℕ → Said N
  Exited : N → Said N
  KernelMapped : N → N → List ℕ → Said N
  Drained : Said N
  Merged : Said N
  EpochBegun : Said N
  Ended : Said N
  Turned : N → Said N
  Polled : N → N → Said N
  Advanced : Said N

-- the same line with each decimal field and each hexadecimal field changed
abbrev pub said_with : {M N : Type 0} → (M → N) → (M → N) → Said M → Said N
said_with dec hex (ShortHeader cpus) = ShortHeader (dec cpus)
said_with dec hex (LongHeader cpus buckets buffer) = LongHeader (dec cpus) (dec buckets) (dec buffer)
said_with dec hex (Sampled cpu pid pc event) = Sampled (dec cpu) (dec pid) (hex pc) event
said_with dec hex (Scanned pid base length image) = Scanned (dec pid) (hex base) (hex length) image
said_with dec hex (Loaded pid base length image) = Loaded (dec pid) (hex base) (hex length) image
said_with dec hex (Unloaded pid base length) = Unloaded (dec pid) (hex base) (hex length)
said_with dec hex (Executed pid base length image) = Executed (dec pid) (hex base) (hex length) image
said_with dec hex (Exited pid) = Exited (dec pid)
said_with dec hex (KernelMapped base length image) = KernelMapped (hex base) (hex length) image
said_with dec hex Drained = Drained
said_with dec hex Merged = Merged
said_with dec hex EpochBegun = EpochBegun
said_with dec hex Ended = Ended
said_with dec hex (Turned cpu) = Turned (dec cpu)
said_with dec hex (Polled cpu cell) = Polled (dec cpu) (dec cell)
said_with dec hex Advanced = Advanced

-- a short header stands for the usual sizes: 4,096 buckets, and buffers of 8,192 entries
abbrev pub with_sizes : Said ℕ → Said ℕ
with_sizes (ShortHeader cpus) = LongHeader cpus MOST_BUCKETS MOST_ENTRIES
with_sizes said = said

-- the values of the fields
abbrev pub values_of : Said (List ℕ) → Said ℕ
values_of raw = with_sizes (said_with (value_of 10) (value_of 16) raw)

-- the canonical spellings of the fields
abbrev pub spellings_of : Said ℕ → Said (List ℕ)
spellings_of said = said_with decimal (digits 16 false) said

-- the fields of a line, as it is written
abbrev pub fields_of : Said (List ℕ) → List (List ℕ)
fields_of (ShortHeader cpus) = codes "dcpi-trace" ∷ codes "1" ∷ codes "cpus" ∷ cpus ∷ []
fields_of (LongHeader cpus buckets buffer) = codes "dcpi-trace" ∷ codes "1" ∷ codes "cpus" ∷ cpus ∷ codes "buckets" ∷ buckets ∷ codes "buffer" ∷ buffer ∷ []
fields_of (Sampled cpu pid pc event) = codes "s" ∷ cpu ∷ pid ∷ pc ∷ name_of event ∷ []
fields_of (Scanned pid base length image) = codes "scan" ∷ pid ∷ base ∷ length ∷ image ∷ []
fields_of (Loaded pid base length image) = codes "load" ∷ pid ∷ base ∷ length ∷ image ∷ []
fields_of (Unloaded pid base length) = codes "unload" ∷ pid ∷ base ∷ length ∷ []
fields_of (Executed pid base length image) = codes "exec" ∷ pid ∷ base ∷ length ∷ image ∷ []
fields_of (Exited pid) = codes "exit" ∷ pid ∷ []
fields_of (KernelMapped base length image) = codes "kernel" ∷ base ∷ length ∷ image ∷ []
fields_of Drained = codes "drain" ∷ []
fields_of Merged = codes "merge" ∷ []
fields_of EpochBegun = codes "epoch" ∷ []
fields_of Ended = codes "end" ∷ []
fields_of (Turned cpu) = codes "l" ∷ cpu ∷ []
fields_of (Polled cpu cell) = codes "d" ∷ cpu ∷ cell ∷ []
fields_of Advanced = codes "a" ∷ []

-- the text of a line, its fields apart by one space
abbrev pub line_text : Said ℕ → List ℕ
line_text said = join_with_byte 32 (fields_of (spellings_of said))

-- a field that a line is tested for: a decimal in a range, a power of two, an address, a mapping, a name
pub data Field (N : Type 0) : Type 0 where
  Decimal : ℕ → ℕ → N → Field N
  PowerOfTwo : N → Field N
  Address : N → Field N
  Mapping : N → N → Field N
  Title : List ℕ → Field N

-- the fields of a line that are no fixed words, with their ranges
abbrev pub tested : {N : Type 0} → Said N → List (Field N)
tested (ShortHeader cpus) = Decimal 1 MOST_CPUS cpus ∷ []
tested (LongHeader cpus buckets buffer) = Decimal 1 MOST_CPUS cpus ∷ PowerOfTwo buckets ∷ Decimal 1 MOST_ENTRIES buffer ∷ []
tested (Sampled cpu pid pc event) = Decimal 0 LAST_CPU cpu ∷ Decimal 0 4294967295 pid ∷ Address pc ∷ []
tested (Scanned pid base length image) = Decimal 0 4294967295 pid ∷ Mapping base length ∷ Title image ∷ []
tested (Loaded pid base length image) = Decimal 0 4294967295 pid ∷ Mapping base length ∷ Title image ∷ []
tested (Unloaded pid base length) = Decimal 0 4294967295 pid ∷ Mapping base length ∷ []
tested (Executed pid base length image) = Decimal 0 4294967295 pid ∷ Mapping base length ∷ Title image ∷ []
tested (Exited pid) = Decimal 0 4294967295 pid ∷ []
tested (KernelMapped base length image) = Mapping base length ∷ Title image ∷ []
tested Drained = []
tested Merged = []
tested EpochBegun = []
tested Ended = []
tested (Turned cpu) = Decimal 0 LAST_CPU cpu ∷ []
tested (Polled cpu cell) = Decimal 0 LAST_CPU cpu ∷ Decimal 0 LAST_CELL cell ∷ []
tested Advanced = []

-- each of these passes the test
abbrev pub every : {A : Type 0} → (A → Bool) → List A → Bool
every test [] = true
every test (x ∷ []) = test x
every test (x ∷ y ∷ more) = test x && every test (y ∷ more)

-- a number field is spelled canonically
abbrev pub is_spelled : Field (List ℕ) → Bool
is_spelled (Decimal least most text) = is_canonical 10 text
is_spelled (PowerOfTwo text) = is_canonical 10 text
is_spelled (Address text) = is_canonical 16 text
is_spelled (Mapping base length) = is_canonical 16 base && is_canonical 16 length
is_spelled (Title name) = true

-- one of the sizes that a table may have
abbrev pub is_table_size : ℕ → Bool
is_table_size n = list_any (λ k. n == 2 ^ k) (0 ∷ 1 ∷ 2 ∷ 3 ∷ 4 ∷ 5 ∷ 6 ∷ 7 ∷ 8 ∷ 9 ∷ 10 ∷ 11 ∷ 12 ∷ [])

-- a mapping covers an address or more and ends at 2 ^ 64 - 4 at most
abbrev pub is_mapping : ℕ → ℕ → Bool
is_mapping base length = nat_le 1 length && nat_le (base + length) GREATEST_END

-- a number field is in its range
abbrev pub is_within : Field ℕ → Bool
is_within (Decimal least most n) = nat_le least n && nat_le n most
is_within (PowerOfTwo n) = is_table_size n
is_within (Address n) = nat_lt n (2 ^ 64)
is_within (Mapping base length) = is_mapping base length
is_within (Title name) = true

-- addresses and lengths are multiples of 4
abbrev pub is_aligned : Field ℕ → Bool
is_aligned (Decimal least most n) = true
is_aligned (PowerOfTwo n) = true
is_aligned (Address n) = n % 4 == 0
is_aligned (Mapping base length) = base % 4 == 0 && length % 4 == 0
is_aligned (Title name) = true

-- an image is named
abbrev pub is_titled : Field ℕ → Bool
is_titled (Decimal least most n) = true
is_titled (PowerOfTwo n) = true
is_titled (Address n) = true
is_titled (Mapping base length) = true
is_titled (Title name) = is_name name

-- the kinds of lines that limits and orders speak of
abbrev pub is_header : {N : Type 0} → Said N → Bool
is_header (ShortHeader cpus) = true
is_header (LongHeader cpus buckets buffer) = true
is_header _ = false

abbrev pub is_sample : {N : Type 0} → Said N → Bool
is_sample (Sampled cpu pid pc event) = true
is_sample _ = false

abbrev pub is_scan : {N : Type 0} → Said N → Bool
is_scan (Scanned pid base length image) = true
is_scan _ = false

abbrev pub is_end : {N : Type 0} → Said N → Bool
is_end Ended = true
is_end _ = false

abbrev pub is_step : {N : Type 0} → Said N → Bool
is_step (Turned cpu) = true
is_step (Polled cpu cell) = true
is_step Advanced = true
is_step _ = false

-- the record that a line says, its image left out, where it says one
abbrev pub notice_of : Said ℕ → Option Record
notice_of (Scanned pid base length image) = Some (Scan pid base length 0)
notice_of (Loaded pid base length image) = Some (Load pid base length 0)
notice_of (Unloaded pid base length) = Some (Unload pid base length)
notice_of (Executed pid base length image) = Some (Exec pid base length 0)
notice_of (Exited pid) = Some (Exit pid)
notice_of (KernelMapped base length image) = Some (Kernel base length 0)
notice_of Drained = Some Drain
notice_of Merged = Some Merge
notice_of EpochBegun = Some Epoch
notice_of (ShortHeader cpus) = None
notice_of (LongHeader cpus buckets buffer) = None
notice_of (Sampled cpu pid pc event) = None
notice_of Ended = None
notice_of (Turned cpu) = None
notice_of (Polled cpu cell) = None
notice_of Advanced = None

-- the lines that end a part of a run
abbrev pub is_part_end : Said ℕ → Bool
is_part_end said = unwrap_or (option_map ends_part (notice_of said)) false

-- each line of the body but a sample is a record
abbrev pub is_record : {N : Type 0} → Said N → Bool
is_record said = not (is_header said || is_sample said || is_end said || is_step said)

-- a scan may stand behind these
abbrev pub may_precede_scan : {N : Type 0} → Said N → Bool
may_precede_scan (Scanned pid base length image) = true
may_precede_scan (KernelMapped base length image) = true
may_precede_scan said = is_header said

-- the processor that a line names
abbrev pub cpu_named : {N : Type 0} → Said N → Option N
cpu_named (Sampled cpu pid pc event) = Some cpu
cpu_named (Turned cpu) = Some cpu
cpu_named (Polled cpu cell) = Some cpu
cpu_named _ = None

-- the image that a line names, if it names one
abbrev pub images_named : {N : Type 0} → Said N → List (List ℕ)
images_named (Scanned pid base length image) = image ∷ []
images_named (Loaded pid base length image) = image ∷ []
images_named (Executed pid base length image) = image ∷ []
images_named (KernelMapped base length image) = image ∷ []
images_named _ = []
