-- A buffer as contracts see it, and a push to the active one.
use Rattle.std.specs.Prelude.{◌≡◌, ℕ, ◌<◌, List, [], ◌∷◌, ◌++◌, length, Option, Some, None}
use Rattle.sample_key.specs.Counted.{Counted}

-- a buffer as contracts see it: its entries, and how many it may hold
pub record Contents : Type 0 where
  pub entries : List Counted
  pub size : ℕ

-- an empty buffer of this size
abbrev pub empty_buffer : ℕ → Contents
empty_buffer size = record { entries = []; size = size }

-- the buffer with one entry more at its end
abbrev pub pushed : Contents → Counted → Contents
pushed b e = record b { entries = b.entries ++ e ∷ [] }

-- there is space for one entry more
abbrev pub HasSpace : Contents → Type 0
HasSpace b = length b.entries < b.size

-- after a push of this entry to this buffer, it is given out where it is full, and else stays the active one
abbrev pub Pushes : Contents → Counted → Option Contents → Option Contents → Type 0
Pushes b e None active = HasSpace (pushed b e) × (active ≡ Some (pushed b e))
Pushes b e (Some full) active = (full ≡ pushed b e) × (length full.entries ≡ full.size) × (active ≡ None)

-- the entries of the active buffer, where there is one
abbrev pub entries_if : Option Contents → Option (List Counted)
entries_if None = None
entries_if (Some b) = Some b.entries
