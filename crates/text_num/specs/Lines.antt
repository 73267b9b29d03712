-- The lines of a text.
use Rattle.std.specs.Prelude.{◌≢◌, ℕ, List, [], ◌∷◌, ◌++◌}
use Rattle.std.specs.List.{AllByRecursion}

-- bytes without a line feed
abbrev pub HasNoLineFeed : List ℕ → Type 0
HasNoLineFeed bytes = AllByRecursion (λ byte. byte ≢ 10) bytes

-- lines, each ended by a line feed
abbrev pub text_of_lines : List (List ℕ) → List ℕ
text_of_lines [] = []
text_of_lines (line ∷ lines) = line ++ 10 ∷ text_of_lines lines
