-- The text of the runs: for each run a line, and a line for each row of its tally.
use Rattle.std.specs.Prelude.{ℕ, zero, suc, Bool, true, false, List, [], ◌∷◌, ◌++◌, length, codes}
use Rattle.std.specs.declared.option.Option.{Option}
use Rattle.std.specs.List.{join_with_byte}
use Rattle.std.specs.Fmt.{decimal}
use Rattle.database_model.specs.Runs.{Segment, Recorded}
use Rattle.database_model.specs.Tally.{tally_of}
use Rattle.summary_text.specs.Summaries.{tally_lines}
use Rattle.run_listing.specs.Runs.{readable, last_run, parts_of, is_whole, joined}

-- a run that has its last part is whole, else it was cut
abbrev pub ending : Bool → List ℕ
ending true = codes "whole"
ending false = codes "cut"

-- the line of a run: its number, how many parts it has, and how it ended
abbrev pub run_line : ℕ → ℕ → Bool → List ℕ
run_line run parts whole = join_with_byte 32 (codes "run" ∷ decimal run ∷ codes "parts" ∷ decimal parts ∷ ending whole ∷ []) ++ 10 ∷ []

-- the text of a run with so many parts
abbrev pub record_text : Recorded → ℕ → Bool → List ℕ
record_text r parts whole = run_line r.run parts whole ++ tally_lines (tally_of r)

-- the text of a run of these parts
abbrev pub run_text : ℕ → List Segment → List ℕ
run_text run parts = record_text (joined run parts) (length parts) (is_whole parts)

-- the texts of the runs up to this one
abbrev pub texts_to : ℕ → List Segment → List ℕ
texts_to zero segments = []
texts_to (suc run) segments = texts_to run segments ++ run_text (suc run) (parts_of (suc run) segments)

-- the text of all runs of segments
abbrev pub listing_of : List (Option Segment) → List ℕ
listing_of segments = texts_to (last_run (readable segments)) (readable segments)
