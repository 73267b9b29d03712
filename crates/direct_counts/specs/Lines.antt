-- The lines of a listing of counts.
use Rattle.std.specs.Prelude.{ℕ, false, List, [], ◌∷◌, ◌++◌}
use Rattle.std.specs.List.{join_with_byte}
use Rattle.std.specs.Fmt.{digits, decimal}
use Rattle.sample_key.specs.declared.events.Event.{Event}
use Rattle.sample_key.specs.Events.{name_of}

-- how a line ends: a space, the event, the offset or program counter, the count, a line feed
abbrev pub row_end : Event → ℕ → ℕ → List ℕ
row_end event address count = 32 ∷ (join_with_byte 32 (name_of event ∷ digits 16 false address ∷ decimal count ∷ []) ++ 10 ∷ [])
