-- The steps of the loops that read.
use Rattle.std.proofs.Common.{◌≡◌, ℕ, ◌+◌, ◌-◌, ◌<◌, ◌≤◌, Bool, List, [], ◌∷◌, ◌++◌, Result, Ok, Err, refl, ap, subst, ◌∙◌, arith}
use Rattle.std.specs.Prelude.{map}
use Rattle.std.proofs.lemmas.List.{map_push}
use Rattle.sample_key.specs.Counted.{Counted}
use Rattle.var_bytes.specs.Forms.{Form, repeat}
use Rattle.var_bytes.specs.Reading.{take_form, read_form}
use Rattle.var_bytes.proofs.FieldLaws.{bind_assoc}
use Rattle.var_bytes.proofs.FormLaws.{take_and_then, repeat_goes_on, repeat_ends, repeat_done}
use Rattle.sample_key.specs.declared.losses.Loss.{Loss}
use Rattle.database_model.specs.SegmentForm.{flagged_entry, drain, segment, loss_form, next_loss, least_index}
use Rattle.var_bytes.specs.declared.errors.FormError.{FormError}
use Rattle.var_bytes.specs.declared.errors.FormError.TheVariants.{Bad, Memory}
use Rattle.var_bytes.specs.Answers.{Fails}
use Rattle.run_record.specs.Reading.{entries_at, note_at, drain_at, segment_at}

-- an item of a repetition was not read
pub ends : {A : Type 0} (e : FormError) (item : List A → Form A) (count i : ℕ) (front : List A) (bytes : List ℕ) (at : ℕ) (total : Result (List A × ℕ) ℕ) → i < count → Fails e (take_form (item front) bytes at)
    → take_form (repeat item (count - i) front) bytes at ≡ total → Fails e total
ends Memory item count i front bytes at total lt here so_far = tt
ends (Bad k) item count i front bytes at total lt here so_far = repeat_ends item count i front bytes at k total lt here so_far

-- the reading of a drain and of a segment by their parts
pub drain_is : (bytes : List ℕ) (at : ℕ) → take_form drain bytes at ≡ drain_at bytes at
unfolding drain drain_at note_at entries_at
drain_is bytes at = simp (bind_assoc, take_and_then)

pub segment_is : (bytes : List ℕ) → read_form segment bytes ≡ segment_at bytes
unfolding segment segment_at
segment_is bytes = simp (bind_assoc, take_and_then)

-- a drain was not read
pub drain_fails : (e : FormError) (bytes : List ℕ) (at : ℕ) → Fails e (drain_at bytes at) → Fails e (take_form drain bytes at)
drain_fails Memory bytes at f = tt
drain_fails (Bad k) bytes at f = drain_is bytes at ∙ f

-- the form of the next loss, where the least index is at hand
pub loss_read : (losses : List Loss) (least : ℕ) (bytes : List ℕ) (at : ℕ) (read : Result (Loss × ℕ) ℕ) → least ≡ least_index losses → take_form (loss_form least) bytes at ≡ read → take_form (next_loss losses) bytes at ≡ read
loss_read losses least bytes at read p e = subst (λ (n : ℕ). take_form (loss_form n) bytes at ≡ read) p e

-- the entries and flags that a loop has read so far
pub record AreRead (count left : ℕ) (entries : List Counted) (known : List Bool) (bytes : List ℕ) (at start : ℕ) : Type 0 where
  pub pairs : List (Counted × Bool)
  pub first : map (λ e. e.0) pairs ≡ entries
  pub second : map (λ e. e.1) pairs ≡ known
  pub told : take_form (repeat (λ before. flagged_entry) left pairs) bytes at ≡ take_form (repeat (λ before. flagged_entry) count []) bytes start

pub none_read : (count : ℕ) (bytes : List ℕ) (at : ℕ) → AreRead count (count - 0) [] [] bytes at at
none_read count bytes at =
    let all : count - 0 ≡ count = omega arith in
    record { pairs = []; first = refl; second = refl; told = ap (λ (n : ℕ). take_form (repeat (λ before. flagged_entry) n []) bytes at) all }

pub one_more_read : (count i : ℕ) (entries : List Counted) (known : List Bool) (bytes : List ℕ) (at start : ℕ) (entry : Counted) (flag : Bool) (after : ℕ) → i < count → AreRead count (count - i) entries known bytes at start
    → take_form flagged_entry bytes at ≡ Ok ((entry, flag), after) → AreRead count (count - (i + 1)) (entries ++ entry ∷ []) (known ++ flag ∷ []) bytes after start
one_more_read count i entries known bytes at start entry flag after lt are here =
    let pair : Counted × Bool = (entry, flag) in
    record {
      pairs = are.pairs ++ pair ∷ [];
      first = map_push (λ (e : Counted × Bool). e.0) are.pairs pair ∙ ap (λ (es : List Counted). es ++ entry ∷ []) are.first;
      second = map_push (λ (e : Counted × Bool). e.1) are.pairs pair ∙ ap (λ (ks : List Bool). ks ++ flag ∷ []) are.second;
      told = repeat_goes_on (λ before. flagged_entry) count i are.pairs bytes at pair after (take_form (repeat (λ before. flagged_entry) count []) bytes start) lt here are.told;
    }

pub none_is_read : (count i : ℕ) (entries : List Counted) (known : List Bool) (bytes : List ℕ) (at start k : ℕ) → i < count → AreRead count (count - i) entries known bytes at start → take_form flagged_entry bytes at ≡ Err k → entries_at count bytes start ≡ Err k
unfolding entries_at
none_is_read count i entries known bytes at start k lt are here =
    let total = repeat_ends (λ before. flagged_entry) count i are.pairs bytes at k (take_form (repeat (λ before. flagged_entry) count []) bytes start) lt here are.told in
    rw total refl

pub all_read : (count i : ℕ) (entries : List Counted) (known : List Bool) (bytes : List ℕ) (at start : ℕ) → count ≤ i → AreRead count (count - i) entries known bytes at start → entries_at count bytes start ≡ Ok (entries, known, at)
unfolding entries_at
all_read count i entries known bytes at start le are =
    let total = repeat_done (λ before. flagged_entry) count i are.pairs bytes at (take_form (repeat (λ before. flagged_entry) count []) bytes start) le are.told in
    rw (total, are.first, are.second) refl
