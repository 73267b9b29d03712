-- Entries and samples that agree at each position agree where each is counted by a test of its own position.
use Rattle.std.proofs.Common.{◌≡◌, ℕ, suc, ◌+◌, ◌≤◌, List, [], ◌∷◌, ◌++◌, refl, ◌∙◌, ap, arith, Bool, true, false, if◌then◌else◌, leb, leb-true, leb-false, le-leb}
use Rattle.std.proofs.lemmas.Bool.{cond-true, cond-false}
use Rattle.sample_key.specs.Counted.{Counted, entry}
use Rattle.sample_key.specs.Marks.{MarksUpTo}
use Rattle.sample_key.specs.declared.keys.Key.{Key}
use Rattle.sample_key.specs.declared.keys.Marked.{Marked}
use Rattle.driver_model.specs.Lists.{AllOf}
use Rattle.database_model.specs.Runs.{Drained}
use Rattle.run_exact.specs.Exact.{counted_where}
use Rattle.run_exact.proofs.Sums.{counted-append}
use Rattle.run_exact.proofs.Upto.{entries_upto, samples_upto}

-- how often drains count what passes the test of their position
abbrev pub placed : (ℕ → Key → Bool) → List Drained → ℕ
placed tests [] = 0
placed tests (d ∷ ds) = counted_where (tests d.at) d.batch.entries + placed tests ds

-- the same up to a position
abbrev pub placed_upto : (ℕ → Key → Bool) → ℕ → List Drained → ℕ
placed_upto tests most [] = 0
placed_upto tests most (d ∷ ds) = (if leb d.at most then counted_where (tests d.at) d.batch.entries else 0) + placed_upto tests most ds

-- how many samples pass the test of their mark
abbrev pub marked : (ℕ → Key → Bool) → List Marked → ℕ
marked tests [] = 0
marked tests (s ∷ ss) = (if tests s.mark s.key then 1 else 0) + marked tests ss

abbrev pub marked_upto : (ℕ → Key → Bool) → ℕ → List Marked → ℕ
marked_upto tests most [] = 0
marked_upto tests most (s ∷ ss) = (if leb s.mark most then (if tests s.mark s.key then 1 else 0) else 0) + marked_upto tests most ss

-- what is counted of the entries up to a position
where_here : (test : Key → Bool) (most : ℕ) (d : Drained) (ds : List Drained) (t : Bool) → leb d.at most ≡ t
    → counted_where test (entries_upto most (d ∷ ds)) ≡ (if t then counted_where test d.batch.entries else 0) + counted_where test (entries_upto most ds)
where_here test most d ds true e =
    ap (λ (z : List Counted). counted_where test (z ++ entries_upto most ds)) (cond-true (leb d.at most) d.batch.entries [] e)
    ∙ counted-append test d.batch.entries (entries_upto most ds)
where_here test most d ds false e =
    ap (λ (z : List Counted). counted_where test (z ++ entries_upto most ds)) (cond-false (leb d.at most) d.batch.entries [] e) ∙ omega arith

where_sample : (test : Key → Bool) (most : ℕ) (s : Marked) (ss : List Marked) (t : Bool) → leb s.mark most ≡ t
    → counted_where test (samples_upto most (s ∷ ss)) ≡ (if t then (if test s.key then 1 else 0) else 0) + counted_where test (samples_upto most ss)
where_sample test most s ss true e =
    ap (λ (z : List Counted). counted_where test (z ++ samples_upto most ss)) (cond-true (leb s.mark most) (entry s.key 1 ∷ []) [] e)
where_sample test most s ss false e =
    ap (λ (z : List Counted). counted_where test (z ++ samples_upto most ss)) (cond-false (leb s.mark most) (entry s.key 1 ∷ []) [] e) ∙ omega arith

-- at position 0 all is counted by its test
pub placed_zero : (tests : ℕ → Key → Bool) (ds : List Drained) → placed_upto tests 0 ds ≡ counted_where (tests 0) (entries_upto 0 ds)
placed_zero tests [] = refl
placed_zero tests (d ∷ ds) = by_place (leb d.at 0) refl (placed_zero tests ds)
  where
    by_place : (t : Bool) → leb d.at 0 ≡ t → placed_upto tests 0 ds ≡ counted_where (tests 0) (entries_upto 0 ds)
        → placed_upto tests 0 (d ∷ ds) ≡ counted_where (tests 0) (entries_upto 0 (d ∷ ds))
    by_place true e rest =
        let here : d.at ≡ 0 = omega (arith, leb-true d.at 0 e) in
        let c : (if leb d.at 0 then counted_where (tests d.at) d.batch.entries else 0) ≡ counted_where (tests d.at) d.batch.entries =
        cond-true {A = ℕ} (leb d.at 0) (counted_where (tests d.at) d.batch.entries) 0 e in
        omega (arith, c, rest, where_here (tests 0) 0 d ds true e, ap (λ (n : ℕ). counted_where (tests n) d.batch.entries) here)
    by_place false e rest =
        let c : (if leb d.at 0 then counted_where (tests d.at) d.batch.entries else 0) ≡ 0 =
        cond-false {A = ℕ} (leb d.at 0) (counted_where (tests d.at) d.batch.entries) 0 e in
        omega (arith, c, rest, where_here (tests 0) 0 d ds false e)

pub marked_zero : (tests : ℕ → Key → Bool) (ss : List Marked) → marked_upto tests 0 ss ≡ counted_where (tests 0) (samples_upto 0 ss)
marked_zero tests [] = refl
marked_zero tests (s ∷ ss) = by_mark (leb s.mark 0) refl (marked_zero tests ss)
  where
    by_mark : (t : Bool) → leb s.mark 0 ≡ t → marked_upto tests 0 ss ≡ counted_where (tests 0) (samples_upto 0 ss)
        → marked_upto tests 0 (s ∷ ss) ≡ counted_where (tests 0) (samples_upto 0 (s ∷ ss))
    by_mark true e rest =
        let here : s.mark ≡ 0 = omega (arith, leb-true s.mark 0 e) in
        let c : (if leb s.mark 0 then (if tests s.mark s.key then 1 else 0) else 0) ≡ (if tests s.mark s.key then 1 else 0) =
        cond-true {A = ℕ} (leb s.mark 0) (if tests s.mark s.key then 1 else 0) 0 e in
        let p : (if tests s.mark s.key then 1 else 0) ≡ (if tests 0 s.key then 1 else 0) = ap {B = ℕ} (λ (n : ℕ). if tests n s.key then 1 else 0) here in
        omega (arith, c, p, rest, where_sample (tests 0) 0 s ss true e)
    by_mark false e rest =
        let c : (if leb s.mark 0 then (if tests s.mark s.key then 1 else 0) else 0) ≡ 0 =
        cond-false {A = ℕ} (leb s.mark 0) (if tests s.mark s.key then 1 else 0) 0 e in
        omega (arith, c, rest, where_sample (tests 0) 0 s ss false e)

-- from one position to the next
pub placed_next : (tests : ℕ → Key → Bool) (most : ℕ) (ds : List Drained)
    → placed_upto tests (suc most) ds + counted_where (tests (suc most)) (entries_upto most ds) ≡ placed_upto tests most ds + counted_where (tests (suc most)) (entries_upto (suc most) ds)
placed_next tests most [] = refl
placed_next tests most (d ∷ ds) = by_place (leb d.at most) (leb d.at (suc most)) refl refl (placed_next tests most ds)
  where
    test : Key → Bool
    test = tests (suc most)

    value : ℕ
    value = counted_where (tests d.at) d.batch.entries

    by_place : (t u : Bool) → leb d.at most ≡ t → leb d.at (suc most) ≡ u
        → placed_upto tests (suc most) ds + counted_where test (entries_upto most ds) ≡ placed_upto tests most ds + counted_where test (entries_upto (suc most) ds)
        → placed_upto tests (suc most) (d ∷ ds) + counted_where test (entries_upto most (d ∷ ds)) ≡ placed_upto tests most (d ∷ ds) + counted_where test (entries_upto (suc most) (d ∷ ds))
    by_place true true e f rest =
        let a : (if leb d.at most then value else 0) ≡ value = cond-true {A = ℕ} (leb d.at most) value 0 e in
        let b : (if leb d.at (suc most) then value else 0) ≡ value = cond-true {A = ℕ} (leb d.at (suc most)) value 0 f in
        omega (arith, a, b, rest, where_here test most d ds true e, where_here test (suc most) d ds true f)
    by_place true false e f rest = absurd (omega (arith, leb-true d.at most e, leb-false d.at (suc most) f))
    by_place false true e f rest =
        let here : d.at ≡ suc most = omega (arith, leb-false d.at most e, leb-true d.at (suc most) f) in
        let a : (if leb d.at most then value else 0) ≡ 0 = cond-false {A = ℕ} (leb d.at most) value 0 e in
        let b : (if leb d.at (suc most) then value else 0) ≡ value = cond-true {A = ℕ} (leb d.at (suc most)) value 0 f in
        let v : value ≡ counted_where test d.batch.entries = ap (λ (n : ℕ). counted_where (tests n) d.batch.entries) here in
        omega (arith, a, b, v, rest, where_here test most d ds false e, where_here test (suc most) d ds true f)
    by_place false false e f rest =
        let a : (if leb d.at most then value else 0) ≡ 0 = cond-false {A = ℕ} (leb d.at most) value 0 e in
        let b : (if leb d.at (suc most) then value else 0) ≡ 0 = cond-false {A = ℕ} (leb d.at (suc most)) value 0 f in
        omega (arith, a, b, rest, where_here test most d ds false e, where_here test (suc most) d ds false f)

pub marked_next : (tests : ℕ → Key → Bool) (most : ℕ) (ss : List Marked)
    → marked_upto tests (suc most) ss + counted_where (tests (suc most)) (samples_upto most ss) ≡ marked_upto tests most ss + counted_where (tests (suc most)) (samples_upto (suc most) ss)
marked_next tests most [] = refl
marked_next tests most (s ∷ ss) = by_mark (leb s.mark most) (leb s.mark (suc most)) refl refl (marked_next tests most ss)
  where
    test : Key → Bool
    test = tests (suc most)

    value : ℕ
    value = if tests s.mark s.key then 1 else 0

    by_mark : (t u : Bool) → leb s.mark most ≡ t → leb s.mark (suc most) ≡ u
        → marked_upto tests (suc most) ss + counted_where test (samples_upto most ss) ≡ marked_upto tests most ss + counted_where test (samples_upto (suc most) ss)
        → marked_upto tests (suc most) (s ∷ ss) + counted_where test (samples_upto most (s ∷ ss)) ≡ marked_upto tests most (s ∷ ss) + counted_where test (samples_upto (suc most) (s ∷ ss))
    by_mark true true e f rest =
        let a : (if leb s.mark most then value else 0) ≡ value = cond-true {A = ℕ} (leb s.mark most) value 0 e in
        let b : (if leb s.mark (suc most) then value else 0) ≡ value = cond-true {A = ℕ} (leb s.mark (suc most)) value 0 f in
        omega (arith, a, b, rest, where_sample test most s ss true e, where_sample test (suc most) s ss true f)
    by_mark true false e f rest = absurd (omega (arith, leb-true s.mark most e, leb-false s.mark (suc most) f))
    by_mark false true e f rest =
        let here : s.mark ≡ suc most = omega (arith, leb-false s.mark most e, leb-true s.mark (suc most) f) in
        let a : (if leb s.mark most then value else 0) ≡ 0 = cond-false {A = ℕ} (leb s.mark most) value 0 e in
        let b : (if leb s.mark (suc most) then value else 0) ≡ value = cond-true {A = ℕ} (leb s.mark (suc most)) value 0 f in
        let v : value ≡ (if test s.key then 1 else 0) = ap {B = ℕ} (λ (n : ℕ). if tests n s.key then 1 else 0) here in
        omega (arith, a, b, v, rest, where_sample test most s ss false e, where_sample test (suc most) s ss true f)
    by_mark false false e f rest =
        let a : (if leb s.mark most then value else 0) ≡ 0 = cond-false {A = ℕ} (leb s.mark most) value 0 e in
        let b : (if leb s.mark (suc most) then value else 0) ≡ 0 = cond-false {A = ℕ} (leb s.mark (suc most)) value 0 f in
        omega (arith, a, b, rest, where_sample test most s ss false e, where_sample test (suc most) s ss false f)

-- up to the last position all are counted
pub placed_all : (tests : ℕ → Key → Bool) (most : ℕ) (ds : List Drained) → AllOf (λ d. d.at ≤ most) ds → placed_upto tests most ds ≡ placed tests ds
placed_all tests most [] all = refl
placed_all tests most (d ∷ ds) all =
    omega (arith, cond-true {A = ℕ} (leb d.at most) (counted_where (tests d.at) d.batch.entries) 0 (le-leb d.at most all.0), placed_all tests most ds all.1)

pub marked_all : (tests : ℕ → Key → Bool) (most : ℕ) (ss : List Marked) → MarksUpTo most ss → marked_upto tests most ss ≡ marked tests ss
marked_all tests most [] all = refl
marked_all tests most (s ∷ ss) all =
    omega (arith, cond-true {A = ℕ} (leb s.mark most) (if tests s.mark s.key then 1 else 0) 0 (le-leb s.mark most all.0), marked_all tests most ss all.1)
