-- The head after an update that fits.
use Rattle.std.proofs.Common.{arith, ◌≡◌, ℕ, ◌+◌, ◌<◌, ◌≤◌, inl, inr, true, ◌&&◌, List, [], ◌∷◌, ◌++◌, length, map, refl, ◌∙◌, length-append}
use Rattle.std.specs.Prelude.{nat_le, nat_lt, count_by, not, is_some}
use Rattle.std.specs.List.{list_all}
use Rattle.std.proofs.lemmas.Grind.{common_steps}
use Rattle.text_num.specs.Names.{is_name}
use Rattle.database_state.specs.declared.rows.KnownRow.{KnownRow}
use Rattle.database_state.specs.declared.rows.UnknownRow.{UnknownRow}
use Rattle.database_state.specs.Rows.{known_before, known_same, unknown_before, unknown_same, is_rising, known_row, unknown_row, is_known_row, is_unknown_row}
use Rattle.database_state.specs.Heads.{Head, IsHead, is_in_range, row_count}
use Rattle.database_state.specs.Updates.{KnownUpdate, UnknownUpdate, Update, Fits, known_row_of, unknown_row_of, is_known_update, is_unknown_update, known_after, unknown_after, head_after, rows_added}
use Rattle.head_file.proofs.Limits.{ranges_of, le_of, lt_of}
use Rattle.epoch_store.proofs.Order.{and_first, and_second, both, rises_each, passes_each, length_each, same_rising}
use Rattle.database_state.proofs.RowOrders.{known_order, unknown_order}

le_true : (a b : ℕ) → a ≤ b → nat_le a b ≡ true
le_true a b le = grind (arith, common_steps)

lt_true : (a b : ℕ) → a < b → nat_lt a b ≡ true
lt_true a b lt = grind (arith, common_steps)

-- the changed profiles rise at every generation
pub known_rise : (g : ℕ) (us : List KnownUpdate) → is_rising known_before (map (known_row_of 0) us) ≡ true → is_rising known_before (map (known_row_of g) us) ≡ true
known_rise g us rising = same_rising known_before (known_row_of g) (known_row_of 0) (λ u v. refl) us ∙ rising

pub unknown_rise : (g : ℕ) (us : List UnknownUpdate) → is_rising unknown_before (map (unknown_row_of 0) us) ≡ true → is_rising unknown_before (map (unknown_row_of g) us) ≡ true
unknown_rise g us rising = same_rising unknown_before (unknown_row_of g) (unknown_row_of 0) (λ u v. refl) us ∙ rising

-- ---- the number of rows

pub rows_after : (h : Head) (u : Update) → is_in_range h ≡ true → Fits h.epoch h.runs h.names u → row_count (head_after u h) ≡ row_count h + rows_added u h
rows_after h u range fits =
    let ranges = ranges_of h range in
    let g = h.generation + 1 in
    let known : length (known_after g h.known u.known) ≡ length h.known + count_by (λ k. not (is_some (known_row h.known k.epoch k.image k.event))) u.known = length_each known_order (known_row_of g) h.known u.known ranges.known_order (known_rise g u.known fits.known_order) in
    let unknown : length (unknown_after g h.unknown u.unknown) ≡ length h.unknown + count_by (λ k. not (is_some (unknown_row h.unknown k.epoch k.event))) u.unknown = length_each unknown_order (unknown_row_of g) h.unknown u.unknown ranges.unknown_order (unknown_rise g u.unknown fits.unknown_order) in
    omega (arith, known, unknown)

-- ---- the ranges

-- a row of a head is a row of one with more
known_wider : (e i g e' i' g' : ℕ) (r : KnownRow) → e ≤ e' → i ≤ i' → g ≤ g' → is_known_row e i g r ≡ true → is_known_row e' i' g' r ≡ true
known_wider e i g e' i' g' r e_le i_le g_le is =
    let a = nat_le r.epoch e in
    let b = nat_lt r.image i in
    let d = nat_le r.event 3 in
    let p = nat_le 1 r.g in
    let q = nat_le r.g g in
    let s4 = and_first (a && b && d && p) q is in
    let s3 = and_first (a && b && d) p s4 in
    let s2 = and_first (a && b) d s3 in
    let epoch_le = le_of r.epoch e (and_first a b s2) in
    let image_lt = lt_of r.image i (and_second a b s2) in
    let g_is = le_of r.g g (and_second (a && b && d && p) q is) in
    both _ _ (both _ _ (both _ _ (both _ _ (le_true r.epoch e' (omega arith)) (lt_true r.image i' (omega arith))) (and_second (a && b) d s3)) (and_second (a && b && d) p s4)) (le_true r.g g' (omega arith))

unknown_wider : (e g e' g' : ℕ) (r : UnknownRow) → e ≤ e' → g ≤ g' → is_unknown_row e g r ≡ true → is_unknown_row e' g' r ≡ true
unknown_wider e g e' g' r e_le g_le is =
    let a = nat_le r.epoch e in
    let d = nat_le r.event 3 in
    let p = nat_le 1 r.g in
    let q = nat_le r.g g in
    let s3 = and_first (a && d && p) q is in
    let s2 = and_first (a && d) p s3 in
    let epoch_le = le_of r.epoch e (and_first a d s2) in
    let g_is = le_of r.g g (and_second (a && d && p) q is) in
    both _ _ (both _ _ (both _ _ (le_true r.epoch e' (omega arith)) (and_second a d s2)) (and_second (a && d) p s3)) (le_true r.g g' (omega arith))

all_known_wider : (e i g e' i' g' : ℕ) (rows : List KnownRow) → e ≤ e' → i ≤ i' → g ≤ g' → list_all (is_known_row e i g) rows ≡ true → list_all (is_known_row e' i' g') rows ≡ true
all_known_wider e i g e' i' g' [] e_le i_le g_le all = refl
all_known_wider e i g e' i' g' (r ∷ rows) e_le i_le g_le all =
    both _ _ (known_wider e i g e' i' g' r e_le i_le g_le (and_first (is_known_row e i g r) (list_all (is_known_row e i g) rows) all)) (all_known_wider e i g e' i' g' rows e_le i_le g_le (and_second (is_known_row e i g r) (list_all (is_known_row e i g) rows) all))

all_unknown_wider : (e g e' g' : ℕ) (rows : List UnknownRow) → e ≤ e' → g ≤ g' → list_all (is_unknown_row e g) rows ≡ true → list_all (is_unknown_row e' g') rows ≡ true
all_unknown_wider e g e' g' [] e_le g_le all = refl
all_unknown_wider e g e' g' (r ∷ rows) e_le g_le all =
    both _ _ (unknown_wider e g e' g' r e_le g_le (and_first (is_unknown_row e g r) (list_all (is_unknown_row e g) rows) all)) (all_unknown_wider e g e' g' rows e_le g_le (and_second (is_unknown_row e g r) (list_all (is_unknown_row e g) rows) all))

-- the rows that are written are rows of the next head
known_new : (e i g : ℕ) (us : List KnownUpdate) → 1 ≤ g → list_all (is_known_update e i) us ≡ true → list_all (λ u. is_known_row e i g (known_row_of g u)) us ≡ true
known_new e i g [] some all = refl
known_new e i g (u ∷ us) some all =
    both _ _ (both _ _ (both _ _ (and_first (is_known_update e i u) (list_all (is_known_update e i) us) all) (le_true 1 g some)) (le_true g g (omega arith))) (known_new e i g us some (and_second (is_known_update e i u) (list_all (is_known_update e i) us) all))

unknown_new : (e g : ℕ) (us : List UnknownUpdate) → 1 ≤ g → list_all (is_unknown_update e) us ≡ true → list_all (λ u. is_unknown_row e g (unknown_row_of g u)) us ≡ true
unknown_new e g [] some all = refl
unknown_new e g (u ∷ us) some all =
    both _ _ (both _ _ (both _ _ (and_first (is_unknown_update e u) (list_all (is_unknown_update e) us) all) (le_true 1 g some)) (le_true g g (omega arith))) (unknown_new e g us some (and_second (is_unknown_update e u) (list_all (is_unknown_update e) us) all))

-- the head after an update that fits and for which there is room
pub next_is_head : (h : Head) (u : Update) → is_in_range h ≡ true → Fits h.epoch h.runs h.names u → row_count (head_after u h) ≤ 65536 → list_all is_name (head_after u h).names ≡ true → IsHead (head_after u h)
next_is_head h u range fits room names =
    let ranges = ranges_of h range in
    let g = h.generation + 1 in
    let images = length (h.names ++ u.names) in
    let epoch_up : h.epoch ≤ u.epoch = elim fits.epoch [ inl e ↦ omega (arith, e) | inr e ↦ omega (arith, e) ] in
    let epoch_le : u.epoch ≤ g = elim fits.epoch [ inl e ↦ omega (arith, e, ranges.epoch) | inr e ↦ omega (arith, e, ranges.epoch) ] in
    let runs_le : u.segment.run ≤ g = elim fits.run [ inl e ↦ omega (arith, e, ranges.runs) | inr e ↦ omega (arith, e, ranges.runs) ] in
    let more : length h.names ≤ images = omega (arith, length-append h.names u.names) in
    let known = passes_each known_before known_same (is_known_row u.epoch images g) (known_row_of g) h.known u.known
    (all_known_wider h.epoch (length h.names) h.generation u.epoch images g h.known epoch_up more (omega arith) ranges.known)
    (known_new u.epoch images g u.known (omega arith) fits.known) in
    let unknown = passes_each unknown_before unknown_same (is_unknown_row u.epoch g) (unknown_row_of g) h.unknown u.unknown
    (all_unknown_wider h.epoch h.generation u.epoch g h.unknown epoch_up (omega arith) ranges.unknown)
    (unknown_new u.epoch g u.unknown (omega arith) fits.unknown) in
    let known_rises = rises_each known_order (known_row_of g) h.known u.known ranges.known_order in
    let unknown_rises = rises_each unknown_order (unknown_row_of g) h.unknown u.unknown ranges.unknown_order in
    record {
      some = omega arith;
      runs = fits.segment.run;
      range = both _ _ (both _ _ (both _ _ (both _ _ (both _ _ (both _ _ (le_true u.epoch g epoch_le) (le_true u.segment.run g runs_le)) (le_true (row_count (head_after u h)) 65536 room)) known) known_rises) unknown) unknown_rises;
      images = fits.names;
      names = names;
    }
