-- The rows so far, and the lines of the others.
use Rattle.std.proofs.Common.{◌≡◌, ℕ, ◌≤◌, List, ◌++◌, length, take, drop}
use Rattle.std.specs.List.{flat_map, AllByRecursion}
use Rattle.database_state.specs.declared.rows.UnknownRow.{UnknownRow as Row}
use Rattle.database_state.specs.Heads.{unknown_line}
use Rattle.database_state.specs.declared.limits.TheConstants.{MOST_ROWS}
use Rattle.head_file.specs.Words.{UnknownFits}
use Rattle.head_file.proofs.reading.unknown_of.Given as goal

abbrev pub invariant-loop : goal.invariant-loop
invariant-loop l = (rows : List Row) (rest : List ℕ) → AllByRecursion UnknownFits rows → length rows ≡ l.fn.count → length rows ≤ MOST_ROWS → l.fn.text ≡ flat_map unknown_line rows ++ rest → (l.rows.items ≡ take l.counter rows) × (l.rest ≡ flat_map unknown_line (drop l.counter rows) ++ rest)
