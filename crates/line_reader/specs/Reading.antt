-- What reading a line takes from the input, and when it fails.
use Rattle.std.specs.Prelude.{◌≡◌, ℕ, ◌+◌, ◌<◌, ◌≤◌, Bool, true, false, List, [], ◌∷◌, ◌++◌, length, OnOk, IsErrOf}
use Rattle.std.specs.declared.option.Option.{Option}
use Rattle.std.specs.declared.result.Result.{Result}
use Rattle.std.specs.Io.KnownBytes.{Consumes, IsAtEnd}
use Rattle.outside_io.specs.Causes.{Rose}
use Rattle.text_num.specs.Lines.{HasNoLineFeed}
use Rattle.line_reader.specs.declared.faults.LineFault.{LineFault}
use Rattle.line_reader.specs.declared.faults.LineFault.TheVariants.{ReadFault, Memory}
use Rattle.line_reader.specs.declared.faults.Ending.{Ending}
use Rattle.line_reader.specs.declared.faults.Ending.TheVariants.{Finished, Unfinished, TooLong}

-- what was read as a line of at most so many bytes, and how it ended
abbrev pub ReadsLine : ℕ → Ending → List ℕ → Option (List ℕ) → Option (List ℕ) → Type 0
ReadsLine limit Finished line old new = HasNoLineFeed line × (length line ≤ limit) × Consumes old new (line ++ 10 ∷ [])
ReadsLine limit Unfinished line old new = HasNoLineFeed line × (length line ≤ limit) × Consumes old new line × IsAtEnd new
ReadsLine limit TooLong line old new = HasNoLineFeed line × (length line ≡ limit + 1) × Consumes old new line

-- the count of faults never falls, a read fault comes only where it rose, and every other answer leaves it
pub record HasLineCause {T : Type 0} (before now : ℕ) (result : Result T LineFault) : Type 0 where
  pub later : before ≤ now
  pub failed : IsErrOf result ReadFault → Rose before now
  pub refused : IsErrOf result Memory → now ≡ before
  pub kept : OnOk result (now ≡ before)

-- the next piece of a line, up to its line feed or of at most so many bytes, was taken from the front of the bytes
abbrev pub TakesPiece : Bool → ℕ → List ℕ → List ℕ → List ℕ → Type 0
TakesPiece true room piece old new = HasNoLineFeed piece × (length piece < room) × (old ≡ piece ++ 10 ∷ new)
TakesPiece false room piece old new = HasNoLineFeed piece × (0 < length piece) × (length piece ≤ room) × (old ≡ piece ++ new)

-- a line of at most so many bytes stands at the front of the bytes, with its line feed
abbrev pub StandsWhole : ℕ → List ℕ → List ℕ → Type 0
StandsWhole limit line bytes = HasNoLineFeed line × (length line ≤ limit) × ((left : List ℕ) × (bytes ≡ line ++ 10 ∷ left))

-- no line of at most so many bytes stands at the front of the bytes with its line feed
abbrev pub NoneStandsWhole : ℕ → List ℕ → Type 0
NoneStandsWhole limit bytes = (line : List ℕ) → StandsWhole limit line bytes → ⊥
