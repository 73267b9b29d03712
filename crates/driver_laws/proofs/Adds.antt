use Rattle.std.proofs.Common.{◌≡◌, ℕ, zero, suc, ◌+◌, ◌*◌, ◌/◌, ◌%◌, ◌<◌, List, [], ◌∷◌, ◌++◌, length, get_or, set, refl, sym, ◌∙◌, ap, subst, arith, inl, inr, Bool, true, false, cond, Some, None, Option, ltb, eqb, ◌&&◌, ltb-false, eqb-true, eq-eqb, length-append}
use Rattle.std.specs.List.{flat_map, position_from}
use Rattle.std.proofs.Math.ListN.{length-set}
use Rattle.std.proofs.lemmas.Bool.{cond_both, and_parts, and_from, cases_Bool, both_ways}
use Rattle.sample_key.specs.Events.{code_of}
use Rattle.sample_key.specs.Bags.{same_key, once, counted, weight}
use Rattle.sample_key.specs.Counted.{Counted, entry}
use Rattle.sample_key.specs.declared.keys.Key.{Key}
use Rattle.driver_model.specs.Lists.{AllOf}
use Rattle.driver_model.specs.Table.{Table, RowStep, bucket_of, entries_in, way_of, add_at, row_add, row_of, add, given_out}
use Rattle.driver_model.specs.declared.answers.Added.{Added}
use Rattle.driver_model.specs.declared.answers.Added.TheVariants.{Folded, Placed, Evicted, Spilt}
use Rattle.driver_laws.proofs.Weights.{weight-append}

-- what one key has, where two are one
pub same_parts : (a b : Key) → same_key a b ≡ true → (a.pid ≡ b.pid) × (a.pc ≡ b.pc) × (code_of a.event ≡ code_of b.event)
same_parts a b h =
    let p = and_parts (eqb a.pid b.pid && eqb a.pc b.pc) (eqb (code_of a.event) (code_of b.event)) h in
    let q = and_parts (eqb a.pid b.pid) (eqb a.pc b.pc) p.0 in
    (eqb-true a.pid b.pid q.0, eqb-true a.pc b.pc q.1, eqb-true (code_of a.event) (code_of b.event) p.1)

pub same_from : (a b : Key) → a.pid ≡ b.pid → a.pc ≡ b.pc → code_of a.event ≡ code_of b.event → same_key a b ≡ true
same_from a b p q r =
    and_from (eqb a.pid b.pid && eqb a.pc b.pc) (eqb (code_of a.event) (code_of b.event))
    (and_from (eqb a.pid b.pid) (eqb a.pc b.pc) (eq-eqb a.pid b.pid p) (eq-eqb a.pc b.pc q)) (eq-eqb (code_of a.event) (code_of b.event) r)

-- one key stands for the other, in second place
pub same_as : (j a b : Key) → same_key a b ≡ true → same_key j a ≡ same_key j b
same_as j a b h =
    let e = same_parts a b h in
    ap (λ n. eqb j.pid n && eqb j.pc a.pc && eqb (code_of j.event) (code_of a.event)) e.0
    ∙ ap (λ n. eqb j.pid b.pid && eqb j.pc n && eqb (code_of j.event) (code_of a.event)) e.1
    ∙ ap (λ n. eqb j.pid b.pid && eqb j.pc b.pc && eqb (code_of j.event) n) e.2

-- two keys that differ also differ the other way round
pub differ_sym : (a b : Key) → same_key a b ≡ false → same_key b a ≡ false
differ_sym a b h =
    elim (cases_Bool (same_key b a)) [
      | inl e ↦ let p = same_parts b a e in absurd (both_ways (same_key a b) h (same_from a b (sym p.0) (sym p.1) (sym p.2)))
      | inr e ↦ e
    ]

-- one key has one bucket
pub same_bucket : (n : ℕ) (a b : Key) → same_key a b ≡ true → bucket_of n a ≡ bucket_of n b
same_bucket n a b h =
    let e = same_parts a b h in
    ap (λ m. (m / 4 + 7 * a.pid + code_of a.event) % n) e.1
    ∙ ap (λ m. (b.pc / 4 + 7 * m + code_of a.event) % n) e.0
    ∙ ap (λ m. (b.pc / 4 + 7 * b.pid + m) % n) e.2

-- keys of two buckets differ
pub apart_differ : (n : ℕ) (a b : Key) → (bucket_of n a ≡ bucket_of n b → ⊥) → same_key a b ≡ false
apart_differ n a b h = elim (cases_Bool (same_key a b)) [ inl e ↦ absurd (h (same_bucket n a b e)) | inr e ↦ e ]

-- where a test first passes
abbrev PassesAt : (Counted → Bool) → ℕ → ℕ → List Counted → Type 0
PassesAt p n i row = (j : ℕ) × (i ≡ n + j) × (j < length row) × ((d : Counted) → p (get_or row j d) ≡ true)

found_step : (p : Counted → Bool) (n i : ℕ) (x : Counted) (row : List Counted) (b : Bool) → p x ≡ b → (position_from p (n + 1) row ≡ Some i → PassesAt p (n + 1) i row)
    → cond b (Some n) (position_from p (n + 1) row) ≡ Some i → PassesAt p n i (x ∷ row)
found_step p n i x row true e f h = let k : n ≡ i = cc in (0, omega (arith, k), omega arith, (λ d. e))
found_step p n i x row false e f h = let r = f h in (suc r.0, omega (arith, r.1), omega (arith, r.2), r.3)

found_at : (p : Counted → Bool) (n i : ℕ) (row : List Counted) → position_from p n row ≡ Some i → PassesAt p n i row
found_at p n i [] h = cc
found_at p n i (x ∷ row) h = found_step p n i x row (p x) refl (λ g. found_at p (n + 1) i row g) h

-- where it never passes
never_step : (p : Counted → Bool) (n : ℕ) (x : Counted) (row : List Counted) (b : Bool) → p x ≡ b → (position_from p (n + 1) row ≡ None → AllOf (λ e. p e ≡ false) row)
    → cond b (Some n) (position_from p (n + 1) row) ≡ None → AllOf (λ e. p e ≡ false) (x ∷ row)
never_step p n x row true e f h = cc
never_step p n x row false e f h = (e, f h)

never_at : (p : Counted → Bool) (n : ℕ) (row : List Counted) → position_from p n row ≡ None → AllOf (λ e. p e ≡ false) row
never_at p n [] h = tt
never_at p n (x ∷ row) h = never_step p n x row (p x) refl (λ g. never_at p (n + 1) row g) h

-- a way that has the key
pub way_found : (k : Key) (row : List Counted) (i : ℕ) → way_of row k ≡ Some i → (i < length row) × (same_key k (get_or row i (entry k 0)).key ≡ true)
way_found k row i h =
    let r = found_at (λ e. same_key k e.key) 0 i row h in
    let e : r.0 ≡ i = omega (arith, r.1) in
    (omega (arith, r.2), subst (λ (j : ℕ). same_key k (get_or row j (entry k 0)).key ≡ true) e (r.3 (entry k 0)))

-- no way has the key
pub way_none : (k : Key) (row : List Counted) → way_of row k ≡ None → AllOf (λ e. same_key k e.key ≡ false) row
way_none k row h = never_at (λ e. same_key k e.key) 0 row h

pub weight-set : (k : Key) (xs : List Counted) (i : ℕ) (e d : Counted) → i < length xs
    → weight k (set xs i e) + counted k (get_or xs i d) ≡ weight k xs + counted k e
weight-set k [] i e d h = absurd (omega arith)
weight-set k (x ∷ xs) zero e d h = omega arith
weight-set k (x ∷ xs) (suc i) e d h = omega (arith, weight-set k xs i e d (omega arith))

pub weight-rows-set : (k : Key) (rows : List (List Counted)) (i : ℕ) (row d : List Counted) → i < length rows
    → weight k (flat_map (λ r. r) (set rows i row)) + weight k (get_or rows i d) ≡ weight k (flat_map (λ r. r) rows) + weight k row
weight-rows-set k [] i row d h = absurd (omega arith)
weight-rows-set k (x ∷ xs) zero row d h =
    omega (arith, weight-append k row (flat_map (λ (r : List Counted). r) xs), weight-append k x (flat_map (λ (r : List Counted). r) xs))
weight-rows-set k (x ∷ xs) (suc i) row d h =
    omega (arith, weight-append k x (flat_map (λ (r : List Counted). r) (set xs i row)), weight-append k x (flat_map (λ (r : List Counted). r) xs), weight-rows-set k xs i row d (omega arith))

pub length-rows-set : (rows : List (List Counted)) (i : ℕ) (row d : List Counted) → i < length rows
    → length (flat_map (λ r. r) (set rows i row)) + length (get_or rows i d) ≡ length (flat_map (λ r. r) rows) + length row
length-rows-set [] i row d h = absurd (omega arith)
length-rows-set (x ∷ xs) zero row d h =
    omega (arith, length-append row (flat_map (λ (r : List Counted). r) xs), length-append x (flat_map (λ (r : List Counted). r) xs))
length-rows-set (x ∷ xs) (suc i) row d h =
    omega (arith, length-append x (flat_map (λ (r : List Counted). r) (set xs i row)), length-append x (flat_map (λ (r : List Counted). r) xs), length-rows-set xs i row d (omega arith))

-- how often what was given out counts a key
abbrev pub out_weight : Key → Option Counted → ℕ
out_weight k None = 0
out_weight k (Some e) = counted k e

-- one for a key that was placed
abbrev pub placed_by : Added → ℕ
placed_by Folded = 0
placed_by Placed = 1
placed_by (Evicted e) = 0
placed_by (Spilt e) = 0

one_more : (b : Bool) (n : ℕ) → cond b (n + 1) 0 ≡ cond b n 0 + cond b 1 0
one_more true n = refl
one_more false n = refl

-- a bucket counts the sample, or gives out what it does not count
row_adds : (j k : Key) (row : List Counted) (turn : ℕ) (o : Option ℕ) → way_of row k ≡ o → turn < 4
    → weight j (add_at row k turn o).row + out_weight j (given_out (add_at row k turn o).added) ≡ weight j row + once j k
row_adds j k row turn (Some i) w l =
    let f = way_found k row i w in let e = get_or row i (entry k 0) in
    let same : once j k ≡ once j e.key = ap (λ (b : Bool). cond b 1 0) (same_as j k e.key f.1) in
    cond_both (ltb e.count 65535)
    (record { row = set row i (entry e.key (e.count + 1)); added = Folded; turn = turn })
    (record { row = set row i (entry e.key 1); added = Spilt e; turn = turn })
    (λ (s : RowStep). weight j s.row + out_weight j (given_out s.added) ≡ weight j row + once j k)
    (λ c. omega (arith, same, weight-set j row i (entry e.key (e.count + 1)) (entry k 0) f.0, one_more (same_key j e.key) e.count))
    (λ c. omega (arith, same, weight-set j row i (entry e.key 1) (entry k 0) f.0))
row_adds j k row turn None w l =
    cond_both (ltb (length row) 4)
    (record { row = row ++ entry k 1 ∷ []; added = Placed; turn = turn })
    (record { row = set row turn (entry k 1); added = Evicted (get_or row turn (entry k 0)); turn = (turn + 1) % 4 })
    (λ (s : RowStep). weight j s.row + out_weight j (given_out s.added) ≡ weight j row + once j k)
    (λ c. omega (arith, weight-append j row (entry k 1 ∷ [])))
    (λ c. weight-set j row turn (entry k 1) (entry k 0) (omega (arith, ltb-false (length row) 4 c)))

-- a bucket has one entry more where the key was placed
row_grows : (k : Key) (row : List Counted) (turn : ℕ) (o : Option ℕ) → length (add_at row k turn o).row ≡ length row + placed_by (add_at row k turn o).added
row_grows k row turn (Some i) =
    let e = get_or row i (entry k 0) in
    cond_both (ltb e.count 65535)
    (record { row = set row i (entry e.key (e.count + 1)); added = Folded; turn = turn })
    (record { row = set row i (entry e.key 1); added = Spilt e; turn = turn })
    (λ (s : RowStep). length s.row ≡ length row + placed_by s.added)
    (λ c. omega (arith, length-set row i (entry e.key (e.count + 1))))
    (λ c. omega (arith, length-set row i (entry e.key 1)))
row_grows k row turn None =
    cond_both (ltb (length row) 4)
    (record { row = row ++ entry k 1 ∷ []; added = Placed; turn = turn })
    (record { row = set row turn (entry k 1); added = Evicted (get_or row turn (entry k 0)); turn = (turn + 1) % 4 })
    (λ (s : RowStep). length s.row ≡ length row + placed_by s.added)
    (λ c. omega (arith, length-append row (entry k 1 ∷ [])))
    (λ c. omega (arith, length-set row turn (entry k 1)))

-- the bucket of a key is one of those that there are
pub bucket_below : (n : ℕ) (k : Key) → 0 < n → bucket_of n k < n
bucket_below n k h = omega arith

-- the table counts the sample, or gives out what it does not count
pub add_weighs : (j k : Key) (t : Table) → 0 < length t.rows → t.turn < 4
    → weight j (entries_in (add t k).table) + out_weight j (given_out (add t k).added) ≡ weight j (entries_in t) + once j k
add_weighs j k t some l =
    let b = bucket_of (length t.rows) k in let s = row_add (row_of t k) k t.turn in
    omega (arith, weight-rows-set j t.rows b s.row [] (bucket_below (length t.rows) k some), row_adds j k (row_of t k) t.turn (way_of (row_of t k) k) refl l)

-- the table has one entry more where the key was placed
pub add_grows : (k : Key) (t : Table) → 0 < length t.rows → length (entries_in (add t k).table) ≡ length (entries_in t) + placed_by (add t k).added
add_grows k t some =
    let b = bucket_of (length t.rows) k in let s = row_add (row_of t k) k t.turn in
    omega (arith, length-rows-set t.rows b s.row [] (bucket_below (length t.rows) k some), row_grows k (row_of t k) t.turn (way_of (row_of t k) k))
