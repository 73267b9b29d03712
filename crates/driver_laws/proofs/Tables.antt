use Rattle.std.proofs.Common.{◌≡◌, ℕ, zero, suc, ◌+◌, ◌%◌, ◌<◌, ◌≤◌, List, [], ◌∷◌, ◌++◌, length, get_or, set, replicate, refl, sym, ◌∙◌, ap, subst, arith, inl, inr, false, Some, None, Option, ltb, eqb, ltb-true, ne_eqb, length-append}
use Rattle.std.specs.List.{flat_map}
use Rattle.std.proofs.Math.ListN.{length-set}
use Rattle.std.proofs.lemmas.Bool.{cond_both, cond-false, cases_eq}
use Rattle.std.proofs.lemmas.List.{length-replicate}
use Rattle.sample_key.specs.Bags.{same_key}
use Rattle.sample_key.specs.Counted.{Counted, entry}
use Rattle.sample_key.specs.declared.keys.Key.{Key}
use Rattle.driver_model.specs.Lists.{AllOf}
use Rattle.driver_model.specs.Table.{Table, RowStep, bucket_of, entries_in, empty_table, way_of, add_at, row_add, add, KeysDiffer, IsRow, AreRows, IsTable, in_bucket, FitsTable}
use Rattle.driver_model.specs.declared.answers.Added.TheVariants.{Folded, Placed, Evicted, Spilt}
use Rattle.driver_laws.proofs.Lists.{all_map, all_push, all_append}
use Rattle.driver_laws.proofs.Adds.{differ_sym, apart_differ, same_bucket, way_found, way_none, bucket_below}

-- the i-th element has what all have
all_at : {A : Type 0} (P : A → Type 0) (xs : List A) (i : ℕ) (d : A) → AllOf P xs → i < length xs → P (get_or xs i d)
all_at P [] i d h l = absurd (omega arith)
all_at P (x ∷ xs) zero d h l = h.0
all_at P (x ∷ xs) (suc i) d h l = all_at P xs i d h.1 (omega arith)

-- another element in its place
all_set : {A : Type 0} (P : A → Type 0) (xs : List A) (i : ℕ) (y : A) → AllOf P xs → P y → AllOf P (set xs i y)
all_set P [] i y h p = tt
all_set P (x ∷ xs) zero y h p = (p, h.1)
all_set P (x ∷ xs) (suc i) y h p = (h.0, all_set P xs i y h.1 p)

-- an entry with the key of the one whose place it takes
differ_kept : (xs : List Counted) (i : ℕ) (n : ℕ) (d : Counted) → KeysDiffer xs → i < length xs → KeysDiffer (set xs i (entry (get_or xs i d).key n))
differ_kept [] i n d h l = tt
differ_kept (x ∷ xs) zero n d h l = h
differ_kept (x ∷ xs) (suc i) n d h l = (
  all_set (λ f. same_key x.key f.key ≡ false) xs i (entry (get_or xs i d).key n) h.0
      (all_at (λ f. same_key x.key f.key ≡ false) xs i d h.0 (omega arith)),
  differ_kept xs i n d h.1 (omega arith),
)

-- a key that no entry has, at the end
differ_push : (xs : List Counted) (k : Key) (n : ℕ) → KeysDiffer xs → AllOf (λ f. same_key k f.key ≡ false) xs → KeysDiffer (xs ++ entry k n ∷ [])
differ_push [] k n h g = (tt, tt)
differ_push (x ∷ xs) k n h g =
    (all_push (λ f. same_key x.key f.key ≡ false) xs (entry k n) h.0 (differ_sym k x.key g.0), differ_push xs k n h.1 g.1)

-- a key that no entry has, in the place of one
differ_set : (xs : List Counted) (i : ℕ) (k : Key) (n : ℕ) → KeysDiffer xs → AllOf (λ f. same_key k f.key ≡ false) xs → KeysDiffer (set xs i (entry k n))
differ_set [] i k n h g = tt
differ_set (x ∷ xs) zero k n h g = (g.1, h.1)
differ_set (x ∷ xs) (suc i) k n h g =
    (all_set (λ f. same_key x.key f.key ≡ false) xs i (entry k n) h.0 (differ_sym k x.key g.0), differ_set xs i k n h.1 g.1)

-- a bucket is still one after a sample was added to it
row_kept : (buckets : ℕ) (k : Key) (row : List Counted) (turn : ℕ) (o : Option ℕ) → way_of row k ≡ o → IsRow buckets (bucket_of buckets k) row
    → IsRow buckets (bucket_of buckets k) (add_at row k turn o).row
row_kept buckets k row turn (Some i) w r =
    let f = way_found k row i w in let e = get_or row i (entry k 0) in
    let home : bucket_of buckets e.key ≡ bucket_of buckets k = sym (same_bucket buckets k e.key f.1) in
    cond_both (ltb e.count 65535)
    (record { row = set row i (entry e.key (e.count + 1)); added = Folded; turn = turn })
    (record { row = set row i (entry e.key 1); added = Spilt e; turn = turn })
    (λ (s : RowStep). IsRow buckets (bucket_of buckets k) s.row)
    (λ c. record {
      ways = omega (arith, r.ways, length-set row i (entry e.key (e.count + 1)));
      home = all_set (λ g. bucket_of buckets g.key ≡ bucket_of buckets k) row i (entry e.key (e.count + 1)) r.home home;
      differ = differ_kept row i (e.count + 1) (entry k 0) r.differ f.0;
    })
    (λ c. record {
      ways = omega (arith, r.ways, length-set row i (entry e.key 1));
      home = all_set (λ g. bucket_of buckets g.key ≡ bucket_of buckets k) row i (entry e.key 1) r.home home;
      differ = differ_kept row i 1 (entry k 0) r.differ f.0;
    })
row_kept buckets k row turn None w r =
    let none = way_none k row w in
    cond_both (ltb (length row) 4)
    (record { row = row ++ entry k 1 ∷ []; added = Placed; turn = turn })
    (record { row = set row turn (entry k 1); added = Evicted (get_or row turn (entry k 0)); turn = (turn + 1) % 4 })
    (λ (s : RowStep). IsRow buckets (bucket_of buckets k) s.row)
    (λ c. record {
      ways = omega (arith, length-append row (entry k 1 ∷ []), ltb-true (length row) 4 c);
      home = all_push (λ g. bucket_of buckets g.key ≡ bucket_of buckets k) row (entry k 1) r.home refl;
      differ = differ_push row k 1 r.differ none;
    })
    (λ c. record {
      ways = omega (arith, r.ways, length-set row turn (entry k 1));
      home = all_set (λ g. bucket_of buckets g.key ≡ bucket_of buckets k) row turn (entry k 1) r.home refl;
      differ = differ_set row turn k 1 r.differ none;
    })

-- the turn stays one of four
turn_kept : (k : Key) (row : List Counted) (turn : ℕ) (o : Option ℕ) → turn < 4 → (add_at row k turn o).turn < 4
turn_kept k row turn (Some i) l =
    let e = get_or row i (entry k 0) in
    cond_both (ltb e.count 65535)
    (record { row = set row i (entry e.key (e.count + 1)); added = Folded; turn = turn })
    (record { row = set row i (entry e.key 1); added = Spilt e; turn = turn })
    (λ (s : RowStep). s.turn < 4) (λ c. l) (λ c. l)
turn_kept k row turn None l =
    cond_both (ltb (length row) 4)
    (record { row = row ++ entry k 1 ∷ []; added = Placed; turn = turn })
    (record { row = set row turn (entry k 1); added = Evicted (get_or row turn (entry k 0)); turn = (turn + 1) % 4 })
    (λ (s : RowStep). s.turn < 4) (λ c. l) (λ c. omega arith)

-- the bucket at an index
row_at : (buckets n : ℕ) (rows : List (List Counted)) (i : ℕ) (d : List Counted) → AreRows buckets n rows → i < length rows → IsRow buckets (n + i) (get_or rows i d)
row_at buckets n [] i d h l = absurd (omega arith)
row_at buckets n (row ∷ rows) zero d h l = let e : n ≡ n + 0 = omega arith in subst (λ (m : ℕ). IsRow buckets m row) e h.0
row_at buckets n (row ∷ rows) (suc i) d h l =
    let e : n + 1 + i ≡ n + suc i = omega arith in
    subst (λ (m : ℕ). IsRow buckets m (get_or rows i d)) e (row_at buckets (n + 1) rows i d h.1 (omega arith))

-- another bucket with its number in its place
rows_set : (buckets n : ℕ) (rows : List (List Counted)) (i : ℕ) (row : List Counted) → AreRows buckets n rows → IsRow buckets (n + i) row → AreRows buckets n (set rows i row)
rows_set buckets n [] i row h r = tt
rows_set buckets n (old ∷ rows) zero row h r = let e : n + 0 ≡ n = omega arith in (subst (λ (m : ℕ). IsRow buckets m row) e r, h.1)
rows_set buckets n (old ∷ rows) (suc i) row h r =
    let e : n + suc i ≡ n + 1 + i = omega arith in (h.0, rows_set buckets (n + 1) rows i row h.1 (subst (λ (m : ℕ). IsRow buckets m row) e r))

-- a table is still one after a sample was added to it
pub table_kept : (buckets : ℕ) (k : Key) (t : Table) → 0 < buckets → IsTable buckets t → IsTable buckets (add t k).table
table_kept buckets k t some h =
    let b = bucket_of buckets k in
    let same : bucket_of (length t.rows) k ≡ b = ap (λ n. bucket_of n k) h.size in
    let within : b < length t.rows = omega (arith, bucket_below buckets k some, h.size) in
    let old : IsRow buckets (0 + b) (get_or t.rows b []) = row_at buckets 0 t.rows b [] h.rows within in
    let zero_b : 0 + b ≡ b = omega arith in
    subst (λ (m : ℕ). IsTable buckets (record { rows = set t.rows m (row_add (get_or t.rows m []) k t.turn).row; turn = (row_add (get_or t.rows m []) k t.turn).turn })) (sym same)
    (record {
      size = length-set t.rows b (row_add (get_or t.rows b []) k t.turn).row ∙ h.size;
      rows = rows_set buckets 0 t.rows b (row_add (get_or t.rows b []) k t.turn).row h.rows
          (subst (λ (m : ℕ). IsRow buckets m (row_add (get_or t.rows b []) k t.turn).row) (sym zero_b)
          (row_kept buckets k (get_or t.rows b []) t.turn (way_of (get_or t.rows b []) k) refl (subst (λ (m : ℕ). IsRow buckets m (get_or t.rows b [])) zero_b old)));
      ways = turn_kept k (get_or t.rows b []) t.turn (way_of (get_or t.rows b []) k) h.ways;
    })

-- empty buckets
empty_rows : (buckets n m : ℕ) → AreRows buckets n (replicate m [])
empty_rows buckets n zero = tt
empty_rows buckets n (suc m) = (record { ways = omega arith; home = tt; differ = tt }, empty_rows buckets (n + 1) m)

-- an empty table is one
pub table_empty : (buckets turn : ℕ) → turn < 4 → IsTable buckets (empty_table buckets turn)
table_empty buckets turn l = record { size = length-replicate {A = List Counted} buckets []; rows = empty_rows buckets 0 buckets; ways = l }

-- and has no entries
pub empty_entries : (buckets turn : ℕ) → entries_in (empty_table buckets turn) ≡ []
empty_entries zero turn = refl
empty_entries (suc n) turn = empty_entries n turn

-- entries of two lists whose keys differ all round
differ_append : (xs ys : List Counted) → KeysDiffer xs → KeysDiffer ys → AllOf (λ e. AllOf (λ f. same_key e.key f.key ≡ false) ys) xs → KeysDiffer (xs ++ ys)
differ_append [] ys h g c = g
differ_append (x ∷ xs) ys h g c = (all_append (λ f. same_key x.key f.key ≡ false) xs ys h.0 c.0, differ_append xs ys h.1 g c.1)

-- the entries of later buckets are of later numbers
rows_above : (buckets n : ℕ) (rows : List (List Counted)) → AreRows buckets n rows → AllOf (λ e. n ≤ bucket_of buckets e.key) (flat_map (λ r. r) rows)
rows_above buckets n [] h = tt
rows_above buckets n (row ∷ rows) h =
    all_append (λ e. n ≤ bucket_of buckets e.key) row (flat_map (λ (r : List Counted). r) rows)
    (all_map (λ e. bucket_of buckets e.key ≡ n) (λ e. n ≤ bucket_of buckets e.key) (λ e g. omega (arith, g)) row h.0.home)
    (all_map (λ e. n + 1 ≤ bucket_of buckets e.key) (λ e. n ≤ bucket_of buckets e.key) (λ e g. omega (arith, g)) (flat_map (λ (r : List Counted). r) rows) (rows_above buckets (n + 1) rows h.1))

-- no two entries of a table have one key
rows_differ : (buckets n : ℕ) (rows : List (List Counted)) → AreRows buckets n rows → KeysDiffer (flat_map (λ r. r) rows)
rows_differ buckets n [] h = tt
rows_differ buckets n (row ∷ rows) h =
    differ_append row (flat_map (λ (r : List Counted). r) rows) h.0.differ (rows_differ buckets (n + 1) rows h.1)
    (all_map (λ e. bucket_of buckets e.key ≡ n) (λ e. AllOf (λ f. same_key e.key f.key ≡ false) (flat_map (λ (r : List Counted). r) rows))
    (λ e at. all_map (λ f. n + 1 ≤ bucket_of buckets f.key) (λ f. same_key e.key f.key ≡ false)
    (λ f above. apart_differ buckets e.key f.key (λ same. omega (arith, at, above, same))) (flat_map (λ (r : List Counted). r) rows) (rows_above buckets (n + 1) rows h.1))
    row h.0.home)

in-append : (buckets n : ℕ) (xs ys : List Counted) → in_bucket buckets n (xs ++ ys) ≡ in_bucket buckets n xs + in_bucket buckets n ys
in-append buckets n [] ys = omega arith
in-append buckets n (x ∷ xs) ys = omega (arith, in-append buckets n xs ys)

-- no more entries are of a bucket than there are
in_most : (buckets n : ℕ) (xs : List Counted) → in_bucket buckets n xs ≤ length xs
in_most buckets n [] = omega arith
in_most buckets n (x ∷ xs) =
    cond_both (eqb (bucket_of buckets x.key) n) 1 0 (λ w. w + in_bucket buckets n xs ≤ length (x ∷ xs))
    (λ e. omega (arith, in_most buckets n xs)) (λ e. omega (arith, in_most buckets n xs))

-- none is, where all are of others
in_none : (buckets n : ℕ) (xs : List Counted) → AllOf (λ e. bucket_of buckets e.key ≡ n → ⊥) xs → in_bucket buckets n xs ≡ 0
in_none buckets n [] h = refl
in_none buckets n (x ∷ xs) h =
    rw (cond-false {A = ℕ} (eqb (bucket_of buckets x.key) n) 1 0 (ne_eqb (bucket_of buckets x.key) n h.0)) (omega (arith, in_none buckets n xs h.1))

-- at most four entries of a table are of one bucket
rows_few : (buckets n : ℕ) (rows : List (List Counted)) (m : ℕ) → AreRows buckets n rows → in_bucket buckets m (flat_map (λ r. r) rows) ≤ 4
rows_few buckets n [] m h = omega arith
rows_few buckets n (row ∷ rows) m h =
    let rest = flat_map (λ (r : List Counted). r) rows in
    elim (cases_eq n m) [
      | inl e ↦ omega (
        arith,
        in-append buckets m row rest,
        in_most buckets m row,
        h.0.ways,
        in_none buckets m rest (all_map (λ f. n + 1 ≤ bucket_of buckets f.key) (λ f. bucket_of buckets f.key ≡ m → ⊥) (λ f above same. omega (arith, e, above, same)) rest (rows_above buckets (n + 1) rows h.1)),
      )
      | inr e ↦ omega (
        arith,
        in-append buckets m row rest,
        rows_few buckets (n + 1) rows m h.1,
        in_none buckets m row (all_map (λ f. bucket_of buckets f.key ≡ n) (λ f. bucket_of buckets f.key ≡ m → ⊥) (λ f home same. e (sym home ∙ same)) row h.0.home),
      )
    ]

-- the entries of a table fit one
pub table_fits : (buckets : ℕ) (t : Table) → IsTable buckets t → FitsTable buckets (entries_in t)
table_fits buckets t h = (rows_differ buckets 0 t.rows h.rows, (λ m. rows_few buckets 0 t.rows m h.rows))
