-- Where the next piece of a line ends.
use Rattle.std.specs.Prelude.{◌≡◌, ℕ, ◌<◌, Bool, true, false, List, length, min, take, slice_index}
use Rattle.text_num.specs.Lines.{HasNoLineFeed}

-- the piece has so many bytes, and a line feed stands behind it, or it fills the room or the bytes
abbrev pub IsPiece : Bool → ℕ → ℕ → List ℕ → Type 0
IsPiece true room n bytes = HasNoLineFeed (take n bytes) × (n < room) × (n < length bytes) × (slice_index bytes n ≡ 10)
IsPiece false room n bytes = HasNoLineFeed (take n bytes) × (0 < n) × (n ≡ min room (length bytes))
