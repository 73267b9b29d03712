-- The next line is that of the next row.
use Rattle.std.proofs.Common.{arith, ◌≡◌, ℕ, ◌+◌, ◌<◌, List, [], ◌∷◌, ◌++◌, length, take, drop, get_or, ◌∙◌, sym, ap}
use Rattle.std.specs.List.{flat_map}
use Rattle.std.proofs.lemmas.List.{take_more}
use Rattle.database_state.specs.Rows.{known_place}
use Rattle.database_state.specs.Heads.{known_line}
use Rattle.head_file.specs.Words.{KnownFits}
use Rattle.head_file.proofs.Lines.{line_at, each_at}
use Rattle.head_file.proofs.reading.known_of.Goals as goal

pub loop-preserved : goal.loop-preserved
loop-preserved c = λ rows rest fits size few e.
    let so_far = c.loop.invariant rows rest fits size few e in
    let i = c.loop.counter in
    let within : i < length rows = omega arith in
    let row = get_or rows i (known_place 0 0 0) in
    let here = so_far.1 ∙ line_at known_line rows i (known_place 0 0 0) rest within in
    let parts = c.known_row.ensures row (flat_map known_line (drop (i + 1) rows) ++ rest) (each_at KnownFits rows i (known_place 0 0 0) fits within) here in
    (c.in_ok-push.ensures.items ∙ ap (λ l. l ++ c.known_row.result.0 ∷ []) so_far.0 ∙ ap (λ r. take i rows ++ r ∷ []) parts.0 ∙ sym (take_more rows i (known_place 0 0 0) within), parts.1)
