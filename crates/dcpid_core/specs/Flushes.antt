-- What the daemon counts of the batches that it takes, and when a flush is complete by these counts.
use Rattle.std.specs.Prelude.{◌≡◌, ℕ, ◌+◌, ◌-◌, ◌^◌, ◌<◌, true, ◌==◌, ◌&&◌, min, not, nat_le, Bool, if◌then◌else◌, List, [], ◌∷◌, Option, Some, None}
use Rattle.sample_key.specs.Headers.{Header}
use Rattle.sample_key.specs.Sent.{Sent}
use Rattle.dcpid_core.specs.declared.flushes.Flush.{Flush}

-- nothing was taken
abbrev pub no_flush : Flush
no_flush = record { first = 0; second = 0; answers = 0; sent0 = 0; sent1 = 0 }

-- one more; a count ends at the greatest number that it holds
abbrev pub one_more : ℕ → ℕ
one_more count = min (count + 1) (2 ^ 64 - 1)

-- after a table batch was taken: the first that answers this value is kept
abbrev pub flush_answered : ℕ → Flush → Header → Flush
flush_answered value flush note =
    if note.answers == value && not (flush.answers == value)
    then record flush { answers = value; sent0 = note.sent0; sent1 = note.sent1 }
    else flush

-- after a batch of this cell was taken, while this value is asked for, or is the next to be
abbrev pub flush_took : ℕ → Flush → ℕ → Header → Flush
flush_took value flush cell note =
    if cell == 0 then record flush { first = one_more flush.first }
    else if cell == 1 then record flush { second = one_more flush.second }
    else flush_answered value flush note

-- whether the flush that this value asks for is complete
abbrev pub is_complete : ℕ → Flush → Bool
is_complete value flush =
    flush.answers == value && nat_le flush.sent0 flush.first && nat_le flush.sent1 flush.second

-- the first of these processors, numbered from here on, whose flush is not complete
abbrev pub first_incomplete : ℕ → ℕ → List Flush → Option ℕ
first_incomplete value cpu [] = None
first_incomplete value cpu (flush ∷ flushes) =
    if is_complete value flush then first_incomplete value (cpu + 1) flushes else Some cpu

-- what is kept of the first table batch that answers a value, where one does
abbrev pub AnswerIs : ℕ → Flush → Option Sent → Type 0
AnswerIs value flush None = not (flush.answers == value) ≡ true
AnswerIs value flush (Some batch) =
    (flush.answers ≡ value) × (flush.sent0 ≡ batch.note.sent0) × (flush.sent1 ≡ batch.note.sent1)

-- the numbers of a note are those of a counter
abbrev pub IsCounter : Header → Type 0
IsCounter note = (note.sent0 < 2 ^ 64) × (note.sent1 < 2 ^ 64)
