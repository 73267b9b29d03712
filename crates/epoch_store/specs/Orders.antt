-- Rows that come to rows.
use Rattle.std.specs.Prelude.{Bool, List, fold}
use Rattle.database_state.specs.Rows.{with_row}

-- the rows with each of these, the first of them first
abbrev pub with_rows : {R : Type 0} → (R → R → Bool) → (R → R → Bool) → List R → List R → List R
with_rows before same rows changed = fold (λ held r. with_row before same held r) rows changed
