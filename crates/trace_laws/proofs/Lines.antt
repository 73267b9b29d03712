-- The lines of good values: their fields, their length, and what they read as.
use Rattle.std.proofs.Common.{◌≡◌, ◌≢◌, ℕ, ◌+◌, ◌-◌, ◌^◌, ◌<◌, ◌≤◌, ◌==◌, ◌&&◌, Bool, true, false, not, List, [], ◌∷◌, length, refl, sym, ◌∙◌, arith, codes, ⊎_elim}
use Rattle.std.specs.List.{AllByRecursion, list_all, list_any, join_with_byte}
use Rattle.std.specs.Fmt.{digits, decimal}
use Rattle.std.proofs.lemmas.Bool.{and_parts, and_from, leb-true, ltb-true, eqb-true, not-true, false≢true, eq-eqb, or_cases}
use Rattle.std.proofs.lemmas.List.{length-append}
use Rattle.std.proofs.lemmas.Fmt.{length-decimal-le}
use Rattle.sample_key.specs.declared.events.Event.{Event}
use Rattle.sample_key.specs.declared.events.Event.TheVariants.{Cycles, Imiss, Dmiss, Branchmp}
use Rattle.sample_key.specs.Events.{name_of}
use Rattle.text_num.specs.Names.{is_name, is_visible}
use Rattle.text_num.specs.Numbers.{HasSpelling}
use Rattle.trace_model.specs.Said.{Said, ShortHeader, LongHeader, Sampled, Scanned, Loaded, Unloaded, Executed, Exited, KernelMapped, Drained, Merged, EpochBegun, Ended, Turned, Polled, Advanced, Decimal, PowerOfTwo, Address, Mapping, every, tested, is_spelled, is_within, is_titled, values_of, spellings_of, fields_of, line_text}
use Rattle.trace_laws.proofs.Spelled.{IsField, IsSpelling, spelled, decimal_short, hexadecimal_short}

-- what a line with good values is
pub record IsLineOf (said : Said ℕ) : Type 0 where
  pub fields : AllByRecursion IsField (fields_of (spellings_of said))
  pub short : length (line_text said) ≤ 400
  pub spelled : every is_spelled (tested (spellings_of said)) ≡ true
  pub values : values_of (spellings_of said) ≡ said

-- a short header
abbrev pub is_short : Said ℕ → Bool
is_short (ShortHeader cpus) = true
is_short _ = false

-- a test of each is a test of every one
pub each : {A : Type 0} (test : A → Bool) (xs : List A) → every test xs ≡ true → AllByRecursion (λ x. test x ≡ true) xs
each test [] h = tt
each test (x ∷ []) h = (h, tt)
each test (x ∷ y ∷ more) h = let p = and_parts (test x) (every test (y ∷ more)) h in (p.0, each test (y ∷ more) p.1)

every_of : {A : Type 0} (test : A → Bool) (xs : List A) → AllByRecursion (λ x. test x ≡ true) xs → every test xs ≡ true
every_of test [] h = refl
every_of test (x ∷ []) h = h.0
every_of test (x ∷ y ∷ more) h = and_from (test x) (every test (y ∷ more)) h.0 (every_of test (y ∷ more) h.1)

-- the ranges of fields
most_of : (least most n : ℕ) → is_within (Decimal least most n) ≡ true → n ≤ most
most_of least most n h = leb-true n most (and_parts _ _ h).1

ends_of : (base size : ℕ) → is_within (Mapping base size) ≡ true → (base < 2 ^ 64) × (size < 2 ^ 64)
ends_of base size h = let p = leb-true (base + size) (2 ^ 64 - 4) (and_parts _ _ h).1 in (omega (arith, p), omega (arith, p))

below_of : (pc : ℕ) → is_within (Address pc) ≡ true → pc < 2 ^ 64
below_of pc h = ltb-true pc (2 ^ 64) h

-- a table has at most 4,096 buckets
size_of : (n : ℕ) (ks : List ℕ) → AllByRecursion (λ k. 2 ^ k ≤ 4096) ks → list_any (λ k. n == 2 ^ k) ks ≡ true → n ≤ 4096
size_of n [] most h = absurd (false≢true h)
size_of n (k ∷ ks) most h = ⊎_elim
    (λ e. omega (arith, eqb-true n (2 ^ k) e, most.0))
    (λ later. size_of n ks most.1 later)
    (or_cases (n == 2 ^ k) (list_any (λ j. n == 2 ^ j) ks) h)

table_of : (n : ℕ) → is_within (PowerOfTwo n) ≡ true → n ≤ 4096
table_of n h = size_of n (0 ∷ 1 ∷ 2 ∷ 3 ∷ 4 ∷ 5 ∷ 6 ∷ 7 ∷ 8 ∷ 9 ∷ 10 ∷ 11 ∷ 12 ∷ [])
    (omega arith, (omega arith, (omega arith, (omega arith, (omega arith, (omega arith, (omega arith, (omega arith, (omega arith, (omega arith, (omega arith, (omega arith, (omega arith, tt))))))))))))) h

-- fixed words
abbrev is_field : List ℕ → Bool
is_field text = list_all (λ byte. not (byte == 32) && not (byte == 10)) text

not_equal : (m n : ℕ) → not (m == n) ≡ true → m ≢ n
not_equal m n h e = absurd (false≢true (sym (not-true (m == n) h) ∙ eq-eqb m n e))

word : (text : List ℕ) → is_field text ≡ true → IsField text
word [] h = tt
word (c ∷ text) h = let p = and_parts _ _ h in let q = and_parts _ _ p.0 in ((not_equal c 32 q.0, not_equal c 10 q.1), word text p.1)

-- names
visible : (text : List ℕ) → list_all is_visible text ≡ true → IsField text
visible [] h = tt
visible (c ∷ text) h = let p = and_parts _ _ h in let least = leb-true 33 c (and_parts _ _ p.0).0 in ((λ e. omega (arith, e, least), λ e. omega (arith, e, least)), visible text p.1)

record IsWord (most : ℕ) (text : List ℕ) : Type 0 where
  field : IsField text
  short : length text ≤ most

name_word : (text : List ℕ) → is_name text ≡ true → IsWord 255 text
name_word text h = let p = and_parts _ _ h in record { field = visible text p.1; short = leb-true (length text) 255 (and_parts _ _ p.0).1 }

event_word : (event : Event) → IsWord 8 (name_of event)
event_word Cycles = record { field = word (codes "cycles") refl; short = omega arith }
event_word Imiss = record { field = word (codes "imiss") refl; short = omega arith }
event_word Dmiss = record { field = word (codes "dmiss") refl; short = omega arith }
event_word Branchmp = record { field = word (codes "branchmp") refl; short = omega arith }

-- the bytes of fields that are joined
abbrev total : List ℕ → List (List ℕ) → ℕ
total first [] = length first
total first (second ∷ more) = length first + (1 + total second more)

joined_length : (first : List ℕ) (more : List (List ℕ)) → length (join_with_byte 32 (first ∷ more)) ≡ total first more
joined_length first [] = refl
joined_length first (second ∷ more) = omega (arith, length-append first (32 ∷ join_with_byte 32 (second ∷ more)), joined_length second more)

module _ (dec : HasSpelling 10) (hex : HasSpelling 16) where
  decimal_of : (n : ℕ) → n < 2 ^ 64 → IsSpelling 10 n (decimal n)
  decimal_of n h = spelled 10 n dec (omega arith) h

  hexadecimal_of : (n : ℕ) → n < 2 ^ 64 → IsSpelling 16 n (digits 16 false n)
  hexadecimal_of n h = spelled 16 n hex (omega arith) h

  line_of_longheader : (cpus buckets buffer : ℕ) → every is_within (tested (LongHeader cpus buckets buffer)) ≡ true → every is_titled (tested (LongHeader cpus buckets buffer)) ≡ true → IsLineOf (LongHeader cpus buckets buffer)
  line_of_longheader cpus buckets buffer within titled =
      let r = each is_within (tested (LongHeader cpus buckets buffer)) within in
      let cpus_most = most_of 1 16 cpus r.0 in
      let cpus_is = decimal_of cpus (omega (arith, cpus_most)) in
      let buckets_most = table_of buckets r.1.0 in
      let buckets_is = decimal_of buckets (omega (arith, buckets_most)) in
      let buffer_most = most_of 1 8192 buffer r.1.1.0 in
      let buffer_is = decimal_of buffer (omega (arith, buffer_most)) in
      record { fields = (word (codes "dcpi-trace") refl, (word (codes "1") refl, (word (codes "cpus") refl, (cpus_is.field, (word (codes "buckets") refl, (buckets_is.field, (word (codes "buffer") refl, (buffer_is.field, tt)))))))); short = omega (arith, joined_length (codes "dcpi-trace") (codes "1" ∷ codes "cpus" ∷ decimal cpus ∷ codes "buckets" ∷ decimal buckets ∷ codes "buffer" ∷ decimal buffer ∷ []), decimal_short cpus (omega (arith, cpus_most)), decimal_short buckets (omega (arith, buckets_most)), decimal_short buffer (omega (arith, buffer_most))); spelled = every_of is_spelled (tested (spellings_of (LongHeader cpus buckets buffer))) (cpus_is.canonical, (buckets_is.canonical, (buffer_is.canonical, tt))); values = rw (cpus_is.value, buckets_is.value, buffer_is.value) refl }

  line_of_sampled : (cpu pid pc : ℕ) (event : Event) → every is_within (tested (Sampled cpu pid pc event)) ≡ true → every is_titled (tested (Sampled cpu pid pc event)) ≡ true → IsLineOf (Sampled cpu pid pc event)
  line_of_sampled cpu pid pc event within titled =
      let r = each is_within (tested (Sampled cpu pid pc event)) within in
      let cpu_most = most_of 0 15 cpu r.0 in
      let cpu_is = decimal_of cpu (omega (arith, cpu_most)) in
      let pid_most = most_of 0 4294967295 pid r.1.0 in
      let pid_is = decimal_of pid (omega (arith, pid_most)) in
      let pc_most = below_of pc r.1.1.0 in
      let pc_is = hexadecimal_of pc pc_most in
      record { fields = (word (codes "s") refl, (cpu_is.field, (pid_is.field, (pc_is.field, ((event_word event).field, tt))))); short = omega (arith, joined_length (codes "s") (decimal cpu ∷ decimal pid ∷ digits 16 false pc ∷ name_of event ∷ []), decimal_short cpu (omega (arith, cpu_most)), length-decimal-le 10 pid (omega arith) (omega (arith, pid_most)) (omega (arith, pid_most)), hexadecimal_short pc pc_most, (event_word event).short); spelled = every_of is_spelled (tested (spellings_of (Sampled cpu pid pc event))) (cpu_is.canonical, (pid_is.canonical, (pc_is.canonical, tt))); values = rw (cpu_is.value, pid_is.value, pc_is.value) refl }

  line_of_scanned : (pid base size : ℕ) (image : List ℕ) → every is_within (tested (Scanned pid base size image)) ≡ true → every is_titled (tested (Scanned pid base size image)) ≡ true → IsLineOf (Scanned pid base size image)
  line_of_scanned pid base size image within titled =
      let r = each is_within (tested (Scanned pid base size image)) within in
      let pid_most = most_of 0 4294967295 pid r.0 in
      let pid_is = decimal_of pid (omega (arith, pid_most)) in
      let ends = ends_of base size r.1.0 in
      let base_is = hexadecimal_of base ends.0 in
      let size_is = hexadecimal_of size ends.1 in
      let image_is = name_word image ((each is_titled (tested (Scanned pid base size image)) titled).1.1.0) in
      record { fields = (word (codes "scan") refl, (pid_is.field, (base_is.field, (size_is.field, (image_is.field, tt))))); short = omega (arith, joined_length (codes "scan") (decimal pid ∷ digits 16 false base ∷ digits 16 false size ∷ image ∷ []), length-decimal-le 10 pid (omega arith) (omega (arith, pid_most)) (omega (arith, pid_most)), hexadecimal_short base ends.0, hexadecimal_short size ends.1, image_is.short); spelled = every_of is_spelled (tested (spellings_of (Scanned pid base size image))) (pid_is.canonical, (and_from _ _ base_is.canonical size_is.canonical, (refl, tt))); values = rw (pid_is.value, base_is.value, size_is.value) refl }

  line_of_loaded : (pid base size : ℕ) (image : List ℕ) → every is_within (tested (Loaded pid base size image)) ≡ true → every is_titled (tested (Loaded pid base size image)) ≡ true → IsLineOf (Loaded pid base size image)
  line_of_loaded pid base size image within titled =
      let r = each is_within (tested (Loaded pid base size image)) within in
      let pid_most = most_of 0 4294967295 pid r.0 in
      let pid_is = decimal_of pid (omega (arith, pid_most)) in
      let ends = ends_of base size r.1.0 in
      let base_is = hexadecimal_of base ends.0 in
      let size_is = hexadecimal_of size ends.1 in
      let image_is = name_word image ((each is_titled (tested (Loaded pid base size image)) titled).1.1.0) in
      record { fields = (word (codes "load") refl, (pid_is.field, (base_is.field, (size_is.field, (image_is.field, tt))))); short = omega (arith, joined_length (codes "load") (decimal pid ∷ digits 16 false base ∷ digits 16 false size ∷ image ∷ []), length-decimal-le 10 pid (omega arith) (omega (arith, pid_most)) (omega (arith, pid_most)), hexadecimal_short base ends.0, hexadecimal_short size ends.1, image_is.short); spelled = every_of is_spelled (tested (spellings_of (Loaded pid base size image))) (pid_is.canonical, (and_from _ _ base_is.canonical size_is.canonical, (refl, tt))); values = rw (pid_is.value, base_is.value, size_is.value) refl }

  line_of_executed : (pid base size : ℕ) (image : List ℕ) → every is_within (tested (Executed pid base size image)) ≡ true → every is_titled (tested (Executed pid base size image)) ≡ true → IsLineOf (Executed pid base size image)
  line_of_executed pid base size image within titled =
      let r = each is_within (tested (Executed pid base size image)) within in
      let pid_most = most_of 0 4294967295 pid r.0 in
      let pid_is = decimal_of pid (omega (arith, pid_most)) in
      let ends = ends_of base size r.1.0 in
      let base_is = hexadecimal_of base ends.0 in
      let size_is = hexadecimal_of size ends.1 in
      let image_is = name_word image ((each is_titled (tested (Executed pid base size image)) titled).1.1.0) in
      record { fields = (word (codes "exec") refl, (pid_is.field, (base_is.field, (size_is.field, (image_is.field, tt))))); short = omega (arith, joined_length (codes "exec") (decimal pid ∷ digits 16 false base ∷ digits 16 false size ∷ image ∷ []), length-decimal-le 10 pid (omega arith) (omega (arith, pid_most)) (omega (arith, pid_most)), hexadecimal_short base ends.0, hexadecimal_short size ends.1, image_is.short); spelled = every_of is_spelled (tested (spellings_of (Executed pid base size image))) (pid_is.canonical, (and_from _ _ base_is.canonical size_is.canonical, (refl, tt))); values = rw (pid_is.value, base_is.value, size_is.value) refl }

  line_of_unloaded : (pid base size : ℕ) → every is_within (tested (Unloaded pid base size)) ≡ true → every is_titled (tested (Unloaded pid base size)) ≡ true → IsLineOf (Unloaded pid base size)
  line_of_unloaded pid base size within titled =
      let r = each is_within (tested (Unloaded pid base size)) within in
      let pid_most = most_of 0 4294967295 pid r.0 in
      let pid_is = decimal_of pid (omega (arith, pid_most)) in
      let ends = ends_of base size r.1.0 in
      let base_is = hexadecimal_of base ends.0 in
      let size_is = hexadecimal_of size ends.1 in
      record { fields = (word (codes "unload") refl, (pid_is.field, (base_is.field, (size_is.field, tt)))); short = omega (arith, joined_length (codes "unload") (decimal pid ∷ digits 16 false base ∷ digits 16 false size ∷ []), length-decimal-le 10 pid (omega arith) (omega (arith, pid_most)) (omega (arith, pid_most)), hexadecimal_short base ends.0, hexadecimal_short size ends.1); spelled = every_of is_spelled (tested (spellings_of (Unloaded pid base size))) (pid_is.canonical, (and_from _ _ base_is.canonical size_is.canonical, tt)); values = rw (pid_is.value, base_is.value, size_is.value) refl }

  line_of_exited : (pid : ℕ) → every is_within (tested (Exited pid)) ≡ true → every is_titled (tested (Exited pid)) ≡ true → IsLineOf (Exited pid)
  line_of_exited pid within titled =
      let r = each is_within (tested (Exited pid)) within in
      let pid_most = most_of 0 4294967295 pid r.0 in
      let pid_is = decimal_of pid (omega (arith, pid_most)) in
      record { fields = (word (codes "exit") refl, (pid_is.field, tt)); short = omega (arith, joined_length (codes "exit") (decimal pid ∷ []), length-decimal-le 10 pid (omega arith) (omega (arith, pid_most)) (omega (arith, pid_most))); spelled = every_of is_spelled (tested (spellings_of (Exited pid))) (pid_is.canonical, tt); values = rw (pid_is.value) refl }

  line_of_kernelmapped : (base size : ℕ) (image : List ℕ) → every is_within (tested (KernelMapped base size image)) ≡ true → every is_titled (tested (KernelMapped base size image)) ≡ true → IsLineOf (KernelMapped base size image)
  line_of_kernelmapped base size image within titled =
      let r = each is_within (tested (KernelMapped base size image)) within in
      let ends = ends_of base size r.0 in
      let base_is = hexadecimal_of base ends.0 in
      let size_is = hexadecimal_of size ends.1 in
      let image_is = name_word image ((each is_titled (tested (KernelMapped base size image)) titled).1.0) in
      record { fields = (word (codes "kernel") refl, (base_is.field, (size_is.field, (image_is.field, tt)))); short = omega (arith, joined_length (codes "kernel") (digits 16 false base ∷ digits 16 false size ∷ image ∷ []), hexadecimal_short base ends.0, hexadecimal_short size ends.1, image_is.short); spelled = every_of is_spelled (tested (spellings_of (KernelMapped base size image))) (and_from _ _ base_is.canonical size_is.canonical, (refl, tt)); values = rw (base_is.value, size_is.value) refl }

  line_of_drained : every is_within (tested Drained) ≡ true → every is_titled (tested Drained) ≡ true → IsLineOf Drained
  line_of_drained within titled =
      record { fields = (word (codes "drain") refl, tt); short = omega (arith, joined_length (codes "drain") ([])); spelled = refl; values = refl }

  line_of_merged : every is_within (tested Merged) ≡ true → every is_titled (tested Merged) ≡ true → IsLineOf Merged
  line_of_merged within titled =
      record { fields = (word (codes "merge") refl, tt); short = omega (arith, joined_length (codes "merge") ([])); spelled = refl; values = refl }

  line_of_epochbegun : every is_within (tested EpochBegun) ≡ true → every is_titled (tested EpochBegun) ≡ true → IsLineOf EpochBegun
  line_of_epochbegun within titled =
      record { fields = (word (codes "epoch") refl, tt); short = omega (arith, joined_length (codes "epoch") ([])); spelled = refl; values = refl }

  line_of_ended : every is_within (tested Ended) ≡ true → every is_titled (tested Ended) ≡ true → IsLineOf Ended
  line_of_ended within titled =
      record { fields = (word (codes "end") refl, tt); short = omega (arith, joined_length (codes "end") ([])); spelled = refl; values = refl }

  line_of_turned : (cpu : ℕ) → every is_within (tested (Turned cpu)) ≡ true → every is_titled (tested (Turned cpu)) ≡ true → IsLineOf (Turned cpu)
  line_of_turned cpu within titled =
      let r = each is_within (tested (Turned cpu)) within in
      let cpu_most = most_of 0 15 cpu r.0 in
      let cpu_is = decimal_of cpu (omega (arith, cpu_most)) in
      record { fields = (word (codes "l") refl, (cpu_is.field, tt)); short = omega (arith, joined_length (codes "l") (decimal cpu ∷ []), decimal_short cpu (omega (arith, cpu_most))); spelled = every_of is_spelled (tested (spellings_of (Turned cpu))) (cpu_is.canonical, tt); values = rw (cpu_is.value) refl }

  line_of_polled : (cpu cell : ℕ) → every is_within (tested (Polled cpu cell)) ≡ true → every is_titled (tested (Polled cpu cell)) ≡ true → IsLineOf (Polled cpu cell)
  line_of_polled cpu cell within titled =
      let r = each is_within (tested (Polled cpu cell)) within in
      let cpu_most = most_of 0 15 cpu r.0 in
      let cpu_is = decimal_of cpu (omega (arith, cpu_most)) in
      let cell_most = most_of 0 2 cell r.1.0 in
      let cell_is = decimal_of cell (omega (arith, cell_most)) in
      record { fields = (word (codes "d") refl, (cpu_is.field, (cell_is.field, tt))); short = omega (arith, joined_length (codes "d") (decimal cpu ∷ decimal cell ∷ []), decimal_short cpu (omega (arith, cpu_most)), decimal_short cell (omega (arith, cell_most))); spelled = every_of is_spelled (tested (spellings_of (Polled cpu cell))) (cpu_is.canonical, (cell_is.canonical, tt)); values = rw (cpu_is.value, cell_is.value) refl }

  line_of_advanced : every is_within (tested Advanced) ≡ true → every is_titled (tested Advanced) ≡ true → IsLineOf Advanced
  line_of_advanced within titled =
      record { fields = (word (codes "a") refl, tt); short = omega (arith, joined_length (codes "a") ([])); spelled = refl; values = refl }

  -- a line with good values
  pub line_of : (said : Said ℕ) → is_short said ≡ false → every is_within (tested said) ≡ true → every is_titled (tested said) ≡ true → IsLineOf said
  line_of (ShortHeader cpus) long within titled = absurd (false≢true (sym long))
  line_of (LongHeader cpus buckets buffer) long within titled = line_of_longheader cpus buckets buffer within titled
  line_of (Sampled cpu pid pc event) long within titled = line_of_sampled cpu pid pc event within titled
  line_of (Scanned pid base size image) long within titled = line_of_scanned pid base size image within titled
  line_of (Loaded pid base size image) long within titled = line_of_loaded pid base size image within titled
  line_of (Executed pid base size image) long within titled = line_of_executed pid base size image within titled
  line_of (Unloaded pid base size) long within titled = line_of_unloaded pid base size within titled
  line_of (Exited pid) long within titled = line_of_exited pid within titled
  line_of (KernelMapped base size image) long within titled = line_of_kernelmapped base size image within titled
  line_of Drained long within titled = line_of_drained within titled
  line_of Merged long within titled = line_of_merged within titled
  line_of EpochBegun long within titled = line_of_epochbegun within titled
  line_of Ended long within titled = line_of_ended within titled
  line_of (Turned cpu) long within titled = line_of_turned cpu within titled
  line_of (Polled cpu cell) long within titled = line_of_polled cpu cell within titled
  line_of Advanced long within titled = line_of_advanced within titled
