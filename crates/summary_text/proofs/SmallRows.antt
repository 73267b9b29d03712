-- How many samples a row of a tally counts: fewer than 2 ^ 120.
use Rattle.std.proofs.Common.{arith, ◌≡◌, ℕ, suc, zero, ◌+◌, ◌*◌, ◌^◌, ◌<◌, ◌≤◌, Bool, true, false, cond, List, [], ◌∷◌, length, map, get_or, ◌⊎◌, inl, inr, sym, subst}
use Rattle.std.specs.Prelude.{sum_by, filter, All, slice_index_or, ◌==◌, ◌&&◌}
use Rattle.std.specs.List.{zip}
use Rattle.std.proofs.lemmas.List.Sums.{sum_by-le, count_by-le-length, length-filter}
use Rattle.std.proofs.lemmas.List.Elements.{All-append, All-filter, All-map}
use Rattle.std.proofs.lemmas.List.{length-append, length-map}
use Rattle.std.proofs.lemmas.Bool.{cases_lt}
use Rattle.std.proofs.lemmas.List.{get_or_past}
use Rattle.std.proofs.lemmas.Slice.Zip.{get_or-zip, length-zip}
use Rattle.sample_key.specs.declared.events.Event.{Event}
use Rattle.sample_key.specs.declared.losses.Loss.{Loss}
use Rattle.sample_key.specs.Counted.{Counted}
use Rattle.sample_key.specs.Events.{code_of, all_events}
use Rattle.database_model.specs.declared.tallies.TallyRow.{TallyRow}
use Rattle.database_model.specs.Ranges.{IsDrained, IsRecorded, LossesRiseFrom, AreLosses}
use Rattle.database_model.specs.Runs.{Drained, Recorded}
use Rattle.database_model.specs.Tally.{agrees, samples_of, drained_of, lost_of, row_of, has_samples, processor_rows, rows_of, tally_of}
use Rattle.summary_text.specs.Bounds.{AllSmall, AreFew, AreSmall, IsSmallRow}
use Rattle.summary_text.specs.Summaries.{taken_in}

-- a count or nothing
at_most : (t : Bool) (n most : ℕ) → n ≤ most → cond t n 0 ≤ most
at_most true n most small = small
at_most false n most small = omega arith

entry_small : (event : Event) (flag : Bool) (e : Counted × Bool) → e.0.count ≤ 65535 → samples_of event flag e ≤ 65535
entry_small event flag e small = at_most (code_of e.0.key.event == code_of event && agrees flag e.1) e.0.count 65535 small

pairs_small : (event : Event) (flag : Bool) (es : List Counted) (ks : List Bool) → length ks ≡ length es → AreSmall es → All (λ (e : Counted × Bool). samples_of event flag e ≤ 65535) (zip es ks)
pairs_small event flag es ks same small = λ k d within.
    let inside : k < length es = omega (arith, within, length-zip es ks, same) in
    let at = get_or-zip es ks k d inside (omega (arith, inside, same)) in
    let P : Counted × Bool → Type 0 = λ e. samples_of event flag e ≤ 65535 in
    subst P (sym at) (entry_small event flag (get_or es k d.0, get_or ks k d.1) (small k d.0 inside))

pub drain_small : (cpu : ℕ) (event : Event) (flag : Bool) (d : Drained) → IsDrained d → AreSmall d.batch.entries → drained_of cpu event flag d ≤ 131070000000
drain_small cpu event flag d is small =
    let es = d.batch.entries in
    let ks = d.known in
    let sum = sum_by-le (samples_of event flag) 65535 (zip es ks) (pairs_small event flag es ks is.flags small) in
    let few : length (zip es ks) ≤ 2000000 = omega (arith, length-zip es ks, is.flags, is.size) in
    at_most (d.batch.note.cpu == cpu) (sum_by (samples_of event flag) (zip es ks)) 131070000000 (omega (arith, sum, few))

pub drains_small : (cpu : ℕ) (event : Event) (flag : Bool) (ds : List Drained) → All IsDrained ds → AllSmall ds → length ds < 2 ^ 64 → sum_by (drained_of cpu event flag) ds < 2 ^ 102
drains_small cpu event flag ds are small few =
    let each : All (λ (d : Drained). drained_of cpu event flag d ≤ 131070000000) ds = λ k d within. drain_small cpu event flag (slice_index_or ds k d) (are k d within) (small k d within) in
    let sum = sum_by-le (drained_of cpu event flag) 131070000000 ds each in
    omega (arith, sum, few)

few_losses : (least : ℕ) (losses : List Loss) → LossesRiseFrom least losses → least ≤ 2000000 → length losses + least ≤ 2000000
few_losses least [] rise small = omega arith
few_losses least (loss ∷ losses) rise small = let rest = few_losses (loss.index + 1) losses rise.2 (omega (arith, rise.1)) in omega (arith, rise.0, rest)

lost_small : (event : Event) (lists : List (List Loss)) (cpu : ℕ) → All AreLosses lists → lost_of event (slice_index_or lists cpu []) ≤ 2000000
lost_small event lists cpu are =
    let losses = slice_index_or lists cpu [] in
    let few = few_of (cases_lt cpu (length lists)) in
    let most = count_by-le-length (λ (loss : Loss). code_of loss.event == code_of event) losses in
    omega (arith, few, most)
  where
    few_of : (cpu < length lists) ⊎ (length lists ≤ cpu) → length (slice_index_or lists cpu []) ≤ 2000000
    few_of (inl within) = omega (arith, few_losses 0 (slice_index_or lists cpu []) (are cpu [] within) (omega arith))
    few_of (inr past) = rw (get_or_past lists cpu [] past) (omega arith)

row_small : (r : Recorded) (cpu : ℕ) (event : Event) → IsRecorded r → AllSmall r.drains → length r.drains < 2 ^ 64 → taken_in (row_of r cpu event) < 2 ^ 120
row_small r cpu event is small few =
    let known = drains_small cpu event true r.drains is.drains small few in
    let unknown = drains_small cpu event false r.drains is.drains small few in
    let lost = lost_small event r.losses cpu is.losses in
    omega (arith, known, unknown, lost)

rows_small : (r : Recorded) (cpus : ℕ) → IsRecorded r → AllSmall r.drains → length r.drains < 2 ^ 64 → All IsSmallRow (rows_of r cpus)
unfolding rows_of
rows_small r zero is small few = λ k d within. absurd (omega (arith, within))
rows_small r (suc cpus) is small few =
    let Fits : TallyRow → Type 0 = IsSmallRow in
    let here = All-filter has_samples Fits (map (row_of r cpus) all_events) (All-map Fits (row_of r cpus) all_events (λ k d within. row_small r cpus (slice_index_or all_events k d) is small few)) in
    All-append Fits (rows_of r cpus) (processor_rows r cpus) (rows_small r cpus is small few) here

-- a filter lets no more through
few_pass : (rows : List TallyRow) → length (filter has_samples rows) ≤ length rows
few_pass rows = omega (arith, length-filter has_samples rows, count_by-le-length has_samples rows)

few_rows : (r : Recorded) (cpus : ℕ) → length (rows_of r cpus) ≤ 4 * cpus
unfolding rows_of
few_rows r zero = omega arith
few_rows r (suc cpus) = omega (arith, length-append (rows_of r cpus) (processor_rows r cpus), few_rows r cpus, few_pass (map (row_of r cpus) all_events))

-- each row of a tally, and how many there are
pub tally_small : (r : Recorded) → IsRecorded r → AllSmall r.drains → length r.drains < 2 ^ 64 → AreFew (tally_of r)
tally_small r is small few = record { small = rows_small r 16 is small few; count = omega (arith, few_rows r 16) }
