-- What a listing counts: how much a database holds under each label.
use Rattle.std.specs.Prelude.{ℕ, zero, suc, ◌+◌, Bool, if◌then◌else◌, List, [], Some, None, sum_by}
use Rattle.std.specs.declared.option.Option.{Option}
use Rattle.symbol_ranges.specs.declared.symbols.Symbol.{Symbol}
use Rattle.symbol_ranges.specs.Lines.{named}
use Rattle.database_model.specs.declared.profiles.ProfileRow.{ProfileRow}
use Rattle.database_state.specs.Database.{Database}
use Rattle.report_text.specs.declared.epochs.Epochs.{Epochs}
use Rattle.report_text.specs.declared.epochs.Epochs.TheVariants.{All, One}
use Rattle.report_text.specs.declared.labels.Label.{Label}
use Rattle.report_text.specs.declared.labels.Label.TheVariants.{Image, Procedure, NoSymbol, Unknown}
use Rattle.report_text.specs.Labels.{image_of, same_label}

-- the procedure at an offset of an image; none in a listing by image
abbrev pub name_in : Option (List Symbol) → List ℕ → ℕ → Option (List ℕ)
name_in None image offset = None
name_in (Some symbols) image offset = named symbols image offset

-- the label of a procedure of an image, or of what lies in none; in a listing by image that of the image
abbrev pub titled : Option (List Symbol) → List ℕ → Option (List ℕ) → Label
titled None image name = Image image
titled (Some symbols) image None = NoSymbol image
titled (Some symbols) image (Some name) = Procedure image name

-- the label of an offset of an image
abbrev pub label_at : Option (List Symbol) → List ℕ → ℕ → Label
label_at symbols image offset = titled symbols image (name_in symbols image offset)

-- the rows of a profile, none of them where its file is bad
abbrev pub rows_or_none : Option (List ProfileRow) → List ProfileRow
rows_or_none None = []
rows_or_none (Some rows) = rows

-- how much rows of a profile count at the offsets whose label passes a test
abbrev pub counted_where : (Label → Bool) → (ℕ → Label) → List ProfileRow → ℕ
counted_where test label_of rows = sum_by (λ row. if test (label_of row.offset) then row.count else 0) rows

-- the sum over the epochs up to the last one
abbrev pub sum_to : ℕ → (ℕ → ℕ) → ℕ
sum_to zero count = count 0
sum_to (suc last) count = sum_to last count + count (suc last)

-- the sum over the epochs that are asked for
abbrev pub sum_over : Epochs → ℕ → (ℕ → ℕ) → ℕ
sum_over All last count = sum_to last count
sum_over (One epoch) last count = count epoch

-- how much a database holds in one epoch under a label, for an event: what its image has at the offsets of this label,
-- and the unknown samples where the label is theirs
abbrev pub counted_in : Database → Option (List Symbol) → ℕ → Label → ℕ → ℕ
counted_in db symbols event label epoch =
    counted_where (same_label label) (label_at symbols (image_of label)) (rows_or_none (db.known epoch (image_of label) event))
    + counted_where (same_label label) (λ pc. Unknown) (rows_or_none (db.unknown epoch event))

-- how much a database holds under a label, for an event, over the epochs that are asked for
abbrev pub counted : Database → Option (List Symbol) → Epochs → ℕ → Label → ℕ
counted db symbols epochs event label = sum_over epochs db.last_epoch (counted_in db symbols event label)
