use Rattle.std.proofs.Common.{◌≡◌, ◌++◌, length-append, Result, Ok, Err, ap, ℕ, zero, suc, ◌+◌, ◌<◌, ◌≤◌, List, [], length, take, get_or, set, Some, refl, sym, ◌∙◌, arith, lt-ltb, le-ltb}
use Rattle.std.specs.Prelude.{OnErr}
use Rattle.std.specs.List.{flat_map}
use Rattle.std.proofs.lemmas.List.Folds.{length-flat_map-take}
use Rattle.std.proofs.lemmas.List.{length-take, get_or-take, get_or_default}
use Rattle.std.proofs.Math.Seq.{take-set-lt}
use Rattle.sample_key.specs.Counted.{Counted, entry}
use Rattle.sample_key.specs.declared.keys.Key.{Key}
use Rattle.driver_model.specs.Table.{way_of, row_add, entries_in, empty_table}

-- an empty table has no entries
pub entries-empty : (n turn : ℕ) → entries_in (empty_table n turn) ≡ []
entries-empty zero turn = refl
entries-empty (suc n) turn = entries-empty n turn

-- the entry that the bucket has at i
there : (xs : List Counted) (len i : ℕ) (k : Key) (r e : Counted) → i < length (take len xs) → e ≡ get_or xs i r
    → get_or (take len xs) i (entry k 0) ≡ e
there xs len i k r e l is =
    let below : i < len = omega (arith, length-take len xs) in
    get_or_default (take len xs) i (entry k 0) r l ∙ get_or-take len xs i r below ∙ sym is

-- the bucket's list after its entry at i rose
pub folded_row : (xs : List Counted) (len i turn : ℕ) (k : Key) (r e : Counted) → way_of (take len xs) k ≡ Some i → i < length (take len xs)
    → e ≡ get_or xs i r → e.count < 65535 → take len (set xs i (entry e.key (e.count + 1))) ≡ (row_add (take len xs) k turn).row
folded_row xs len i turn k r e w l is c =
    let below : i < len = omega (arith, length-take len xs) in
    rw (w, there xs len i k r e l is, lt-ltb e.count 65535 c) (take-set-lt len xs i (entry e.key (e.count + 1)) below)

-- the bucket's list after its entry at i was given out
pub spilt_row : (xs : List Counted) (len i turn : ℕ) (k : Key) (r e : Counted) → way_of (take len xs) k ≡ Some i → i < length (take len xs)
    → e ≡ get_or xs i r → 65535 ≤ e.count → take len (set xs i (entry e.key 1)) ≡ (row_add (take len xs) k turn).row
spilt_row xs len i turn k r e w l is c =
    let below : i < len = omega (arith, length-take len xs) in
    rw (w, there xs len i k r e l is, le-ltb e.count 65535 c) (take-set-lt len xs i (entry e.key 1) below)

-- a fact that holds anyway holds of an error
pub on_err : {T E : Type 0} {P : Type 0} (r : Result T E) → P → OnErr r P
on_err (Ok x) p = tt
on_err (Err e) p = p

-- where a bucket found no room, there was not room for all of them
pub no_room : (rows : List (List Counted)) (i : ℕ) (row : List Counted) → row ≡ get_or rows i row → i < length rows
    → (items items0 : List Counted) (cap cap0 len len0 : ℕ) → len ≡ length items → len0 ≡ length items0 → cap0 ≤ cap
    → items ≡ items0 ++ flat_map (λ r. r) (take i rows) → cap < len + length row → cap0 < len0 + length (flat_map (λ r. r) rows)
no_room rows i row is l items items0 cap cap0 len len0 n n0 caps e full =
    let m : length items ≡ length items0 + length (flat_map (λ (r : List Counted). r) (take i rows)) =
    ap length e ∙ length-append items0 (flat_map (λ (r : List Counted). r) (take i rows)) in
    let r : length row ≡ length (get_or rows i row) = ap length is in
    omega (arith, m, r, length-flat_map-take (λ (r : List Counted). r) rows i row l)
