-- The table of counted entries: what adding a sample does (add), and what a table keeps (IsTable).
use Rattle.std.specs.Prelude.{◌≡◌, ℕ, ◌+◌, ◌*◌, ◌/◌, ◌%◌, ◌<◌, ◌≤◌, ◌==◌, nat_lt, Bool, false, if◌then◌else◌, List, [], ◌∷◌, ◌++◌, length, replicate, slice_index_or, slice_set, Option, Some, None, is_some}
use Rattle.std.specs.List.{flat_map, position_from}
use Rattle.sample_key.specs.Events.{code_of}
use Rattle.sample_key.specs.Counted.{Counted, entry}
use Rattle.sample_key.specs.Bags.{same_key}
use Rattle.sample_key.specs.declared.keys.Key.{Key}
use Rattle.sample_key.specs.declared.limits.TheConstants.{MOST_COUNT}
use Rattle.driver_model.specs.Lists.{AllOf}
use Rattle.driver_model.specs.declared.answers.Added.{Added}
use Rattle.driver_model.specs.declared.answers.Added.TheVariants.{Folded, Placed, Evicted, Spilt}

-- the table of counted entries: buckets of at most four ways, and the index of the way to replace
-- next
pub record Table : Type 0 where
  pub rows : List (List Counted)
  pub turn : ℕ

-- the bucket of a key, among so many
abbrev pub bucket_of : ℕ → Key → ℕ
bucket_of buckets key = (key.pc / 4 + 7 * key.pid + code_of key.event) % buckets

-- all entries, by bucket and then by index
abbrev pub entries_in : Table → List Counted
entries_in table = flat_map (λ row. row) table.rows

-- a table of so many empty buckets
abbrev pub empty_table : ℕ → ℕ → Table
empty_table buckets turn = record { rows = replicate buckets []; turn = turn }

-- the same table without its entries: clearing leaves the turn
abbrev pub cleared : Table → Table
cleared table = empty_table (length table.rows) table.turn

-- where a bucket has an entry of the key
abbrev pub way_of : List Counted → Key → Option ℕ
way_of row key = position_from (λ old. same_key key old.key) 0 row

-- what adding a sample does to its bucket
pub record RowStep : Type 0 where
  pub row : List Counted
  pub added : Added
  pub turn : ℕ

-- the entry at this index has the key: its count rises, or it is given out and begins again at one
abbrev pub add_over : List Counted → ℕ → Counted → ℕ → RowStep
add_over row index old turn =
    if nat_lt old.count MOST_COUNT
    then record {
      row = slice_set row index (entry old.key (old.count + 1));
      added = Folded;
      turn = turn;
    }
    else record { row = slice_set row index (entry old.key 1); added = Spilt old; turn = turn }

-- no entry has the key: it goes to a free way, or takes the way whose turn it is
abbrev pub add_apart : List Counted → Key → ℕ → RowStep
add_apart row key turn =
    if nat_lt (length row) 4
    then record { row = row ++ entry key 1 ∷ []; added = Placed; turn = turn }
    else record {
      row = slice_set row turn (entry key 1);
      added = Evicted (slice_index_or row turn (entry key 0));
      turn = (turn + 1) % 4;
    }

-- adding a sample to its bucket, by where the bucket has the key
abbrev pub add_at : List Counted → Key → ℕ → Option ℕ → RowStep
add_at row key turn (Some index) = add_over row index (slice_index_or row index (entry key 0)) turn
add_at row key turn None = add_apart row key turn

-- adding a sample to its bucket
abbrev pub row_add : List Counted → Key → ℕ → RowStep
row_add row key turn = add_at row key turn (way_of row key)

-- the bucket of a key
abbrev pub row_of : Table → Key → List Counted
row_of table key = slice_index_or table.rows (bucket_of (length table.rows) key) []

-- what adding a sample does to the table
pub record TableStep : Type 0 where
  pub table : Table
  pub added : Added

-- the table with this bucket changed
abbrev pub put_row : Table → ℕ → RowStep → TableStep
put_row table number step = record {
  table = record { rows = slice_set table.rows number step.row; turn = step.turn };
  added = step.added;
}

-- adding a sample to the table
abbrev pub add : Table → Key → TableStep
add table key =
    put_row table (bucket_of (length table.rows) key) (row_add (row_of table key) key table.turn)

-- the entry that was given out, if one was
abbrev pub given_out : Added → Option Counted
given_out Folded = None
given_out Placed = None
given_out (Evicted old) = Some old
given_out (Spilt old) = Some old

-- whether adding the key to the table would give an entry out
abbrev pub needs_room : Table → Key → Bool
needs_room table key = is_some (given_out (add table key).added)

-- no entry has the key of a later one
abbrev pub KeysDiffer : List Counted → Type 0
KeysDiffer [] = Unit {0}
KeysDiffer (first ∷ others) =
    AllOf (λ other. same_key first.key other.key ≡ false) others × KeysDiffer others

-- a bucket with this number: at most four entries, each of a key of this bucket, and no key twice
pub record IsRow (buckets number : ℕ) (row : List Counted) : Type 0 where
  pub ways : length row ≤ 4
  pub home : AllOf (λ held. bucket_of buckets held.key ≡ number) row
  pub differ : KeysDiffer row

-- buckets that are numbered from here on
abbrev pub AreRows : ℕ → ℕ → List (List Counted) → Type 0
AreRows buckets number [] = Unit {0}
AreRows buckets number (row ∷ rows) =
    IsRow buckets number row × AreRows buckets (number + 1) rows

-- a table of so many buckets
pub record IsTable (buckets : ℕ) (table : Table) : Type 0 where
  pub size : length table.rows ≡ buckets
  pub rows : AreRows buckets 0 table.rows
  pub ways : table.turn < 4

-- how many of the entries are of keys of this bucket
abbrev pub in_bucket : ℕ → ℕ → List Counted → ℕ
in_bucket buckets number [] = 0
in_bucket buckets number (first ∷ others) =
    (if bucket_of buckets first.key == number then 1 else 0) + in_bucket buckets number others

-- entries that a table of so many buckets can hold: no key twice, and at most four of a bucket
abbrev pub FitsTable : ℕ → List Counted → Type 0
FitsTable buckets entries =
    KeysDiffer entries × ((number : ℕ) → in_bucket buckets number entries ≤ 4)
