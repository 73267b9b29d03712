-- A listing as text.
use Rattle.std.specs.Prelude.{ℕ, ◌+◌, ◌-◌, ◌*◌, ◌/◌, List, [], ◌∷◌, ◌++◌, length, replicate, codes}
use Rattle.std.specs.List.{join_with_byte}
use Rattle.std.specs.Fmt.{decimal}
use Rattle.text_num.specs.Numbers.{hundredths}
use Rattle.sample_key.specs.declared.events.Event.{Event}
use Rattle.sample_key.specs.Events.{name_of}
use Rattle.report_text.specs.declared.epochs.Epochs.{Epochs}
use Rattle.report_text.specs.declared.epochs.Epochs.TheVariants.{All, One}
use Rattle.report_text.specs.declared.labels.Label.{Label}
use Rattle.report_text.specs.declared.labels.Label.TheVariants.{Image, Procedure, NoSymbol, Unknown}
use Rattle.report_text.specs.declared.rows.Row.{Row}
use Rattle.report_text.specs.Reports.{Report}

-- a part of a total in hundredths of a percent, rounded down
abbrev pub share_of : ℕ → ℕ → ℕ
share_of part total = 10000 * part / total

-- the same with two decimals
abbrev pub percent : ℕ → ℕ → List ℕ
percent part total = hundredths (share_of part total)

-- the epochs, as they were asked for
abbrev pub epochs_text : Epochs → List ℕ
epochs_text All = codes "all"
epochs_text (One epoch) = decimal epoch

-- the label of a row
abbrev pub label_text : Label → List ℕ
label_text (Image image) = image
label_text (Procedure image name) = name ++ 32 ∷ image
label_text (NoSymbol image) = codes "(no symbol) " ++ image
label_text Unknown = codes "(unknown profile)"

-- a text right in this many places, and whole where it is longer
abbrev pub right_in : ℕ → List ℕ → List ℕ
right_in places text = replicate (places - length text) 32 ++ text

-- the event, the epochs and the total
abbrev pub first_line : Report → Epochs → Event → List ℕ
first_line report epochs event =
    join_with_byte 32 (name_of event ∷ codes "epoch" ∷ epochs_text epochs ∷ codes "total" ∷ decimal report.total ∷ []) ++ 10 ∷ []

-- a count and two percentages of the total, its own and that of the rows up to it, with a blank behind each
abbrev pub numbers_text : ℕ → ℕ → ℕ → List ℕ
numbers_text total up_to count =
    right_in 12 (decimal count) ++ 32 ∷ (right_in 6 (percent count total) ++ 32 ∷ (right_in 6 (percent up_to total) ++ 32 ∷ []))

-- the line of a row, where the rows up to it count this much
abbrev pub row_line : ℕ → ℕ → Row → List ℕ
row_line total up_to row = numbers_text total up_to row.count ++ (label_text row.label ++ 10 ∷ [])

-- the lines of rows, where those before them count this much
abbrev pub lines_after : ℕ → ℕ → List Row → List ℕ
lines_after total before [] = []
lines_after total before (row ∷ rows) = row_line total (before + row.count) row ++ lines_after total (before + row.count) rows

-- the text of a listing
abbrev pub report_text : Report → Epochs → Event → List ℕ
report_text report epochs event = first_line report epochs event ++ lines_after report.total 0 report.rows
