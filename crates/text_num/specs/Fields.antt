-- The fields of a text that is cut at a byte.
use Rattle.std.specs.Prelude.{ℕ, ◌==◌, List, [], None, Some}
use Rattle.std.specs.declared.option.Option.{Option}
use Rattle.std.specs.Borrow.{Bor}
use Rattle.std.specs.List.{slice_split}

-- the fields of a text, cut at each such byte
abbrev pub cut_at : ℕ → List ℕ → List (List ℕ)
cut_at separator text = slice_split (λ byte. byte == separator) text

-- the fields behind the first
abbrev pub fields_behind : ℕ → Option (Bor (List ℕ)) → List (List ℕ)
fields_behind separator None = []
fields_behind separator (Some text) = cut_at separator text.now
