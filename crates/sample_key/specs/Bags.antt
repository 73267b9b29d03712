-- How often entries, samples, batches and losses count each key: lists are compared by these numbers, key by key.
use Rattle.std.specs.Prelude.{◌≡◌, ℕ, ◌+◌, ◌≤◌, ◌==◌, nat_le, nat_lt, ◌&&◌, Bool, if◌then◌else◌, List, [], ◌∷◌, Option, Some, None, slice_get}
use Rattle.sample_key.specs.Events.{code_of}
use Rattle.sample_key.specs.Counted.{Counted}
use Rattle.sample_key.specs.Sent.{Sent}
use Rattle.sample_key.specs.declared.keys.Key.{Key}
use Rattle.sample_key.specs.declared.keys.Marked.{Marked}
use Rattle.sample_key.specs.declared.losses.Loss.{Loss}

-- whether two keys are one: the same process, program counter and event
abbrev pub same_key : Key → Key → Bool
same_key a b = a.pid == b.pid && a.pc == b.pc && code_of a.event == code_of b.event

-- one where the second key is the first, else nothing
abbrev pub once : Key → Key → ℕ
once k j = if same_key k j then 1 else 0

-- how often an entry counts a key
abbrev pub counted : Key → Counted → ℕ
counted k e = if same_key k e.key then e.count else 0

-- how often a list of entries counts a key
abbrev pub weight : Key → List Counted → ℕ
weight k [] = 0
weight k (e ∷ es) = counted k e + weight k es

-- how many of the samples have a key
abbrev pub times : Key → List Marked → ℕ
times k [] = 0
times k (s ∷ ss) = once k s.key + times k ss

-- how often a list of batches counts a key
abbrev pub batched : Key → List Sent → ℕ
batched k [] = 0
batched k (b ∷ bs) = weight k b.entries + batched k bs

-- how often the batches count a key that go up to at most so many samples
abbrev pub batched_upto : Key → ℕ → List Sent → ℕ
batched_upto k u [] = 0
batched_upto k u (b ∷ bs) = (if nat_le b.note.upto u then weight k b.entries else 0) + batched_upto k u bs

-- one where a sample is there and has the key
abbrev pub once_at : Key → Option Marked → ℕ
once_at k None = 0
once_at k (Some s) = once k s.key

-- how many of the lost samples have a key
abbrev pub lost : Key → List Marked → List Loss → ℕ
lost k samples [] = 0
lost k samples (l ∷ ls) = once_at k (slice_get samples l.index) + lost k samples ls

-- how many of the lost samples have a key and an index below this one
abbrev pub lost_below : Key → ℕ → List Marked → List Loss → ℕ
lost_below k u samples [] = 0
lost_below k u samples (l ∷ ls) =
    (if nat_lt l.index u then once_at k (slice_get samples l.index) else 0) + lost_below k u samples ls
