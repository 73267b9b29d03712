-- The same, as the calls find it: a side that is seen as this value, and new parts that are known by equations.
use Rattle.std.proofs.Common.{◌≡◌, ℕ, zero, suc, ◌+◌, ◌≤◌, refl, sym, ◌∙◌, ap, subst, arith, false}
use Rattle.sample_key.specs.declared.batches.Parcel.{Parcel}
use Rattle.driver_model.specs.Table.{Table}
use Rattle.driver_model.specs.Sides.{side_hand_buffer, side_hand_table}
use Rattle.driver_model.specs.Handover.{far_slot_of}
use Rattle.overflow_pair.specs.Contents.{Contents}
use Rattle.lane_side.specs.Calls.{MayHandBuffer, MayHandTable, PollsBuffer, PollsTable, buffer_sent, table_sent}
use Rattle.lane_side.specs.HandedSoFar.{HandedSoFar, one_more}
use Rattle.lane_side.specs.Cells.{after_poll, poll_of, cell_of}
use Rattle.lane_side.specs.Tallies.{Tallies}
use Rattle.lane_side.specs.Tallied.{tallied}
use Rattle.lane_side.specs.Plain.{PlainParts, Plain, seen_of, far_of, plain_of, IsPlain}
use Rattle.lane_side.specs.declared.cells.Holder.{Holder}
use Rattle.lane_side.specs.declared.cells.Holder.TheVariants.{AtHome, WithDriver, Posted, WithDaemon}
use Rattle.lane_side.specs.declared.cells.Cell.{Cell}
use Rattle.lane_side.specs.declared.call_log.Call.TheVariants.{Try, Pass}
use Rattle.turn_cell.specs.declared.passing.PollOf.{PollOf}
use Rattle.turn_cell.specs.declared.passing.PollOf.TheVariants.{Parcel as Got}
use Rattle.lane_side.proofs.PlainLemmas.{handed_plain0, handed_plain1, handed_plain2, polled_plain0, polled_plain1, taken_plain2}

-- what is said of a number, of parts and of a view is said of equal ones
as_found : (P : ℕ → PlainParts → Plain → Type 0) (n m : ℕ) (x y : PlainParts) (view now : Plain) → P n x view → m ≡ n → y ≡ x → view ≡ now → P m y now
as_found P n m x y view now h number parts seen =
    subst (λ (z : Plain). P m y z) seen (subst (λ (z : PlainParts). P m z view) (sym parts) (subst (λ (k : ℕ). P k x view) (sym number) h))

-- a buffer was handed
abbrev HandsBuffer : Parcel Contents → ℕ → PlainParts → Plain → Type 0
HandsBuffer q n y now =
    MayHandBuffer n now.fixed now.seen q.note q.body → IsPlain y × (seen_of y ≡ side_hand_buffer now.seen n (buffer_sent q)) × (far_of y ≡ now.far)

pub handed_any0 : (p : PlainParts) (b : ℕ) (q : Parcel Contents) (now : Plain) (c : Cell Contents) (k : HandedSoFar) (t : Tallies) → b ≡ 0 → plain_of p ≡ now
    → MayHandBuffer b now.fixed now.seen q.note q.body → IsPlain p → c ≡ cell_of (p.first.hands + 1) p.first.given (Posted q) → k ≡ one_more p.history (buffer_sent q) → t ≡ tallied p.tallies Pass
    → IsPlain (record p { first = c; history = k; tallies = t })
    × (seen_of (record p { first = c; history = k; tallies = t }) ≡ side_hand_buffer now.seen b (buffer_sent q)) × (far_of (record p { first = c; history = k; tallies = t }) ≡ now.far)
handed_any0 p b q now c k t eb view may i ec ek et =
    as_found (HandsBuffer q) 0 b (record p { first = cell_of (p.first.hands + 1) p.first.given (Posted q); history = one_more p.history (buffer_sent q); tallies = tallied p.tallies Pass })
    (record p { first = c; history = k; tallies = t }) (plain_of p) now (λ m. handed_plain0 p q m i) eb (λ j. record p { first = ec j; history = ek j; tallies = et j }) view may

pub handed_any1 : (p : PlainParts) (b : ℕ) (q : Parcel Contents) (now : Plain) (c : Cell Contents) (k : HandedSoFar) (t : Tallies) → b ≡ 1 → plain_of p ≡ now
    → MayHandBuffer b now.fixed now.seen q.note q.body → IsPlain p → c ≡ cell_of (p.second.hands + 1) p.second.given (Posted q) → k ≡ one_more p.history (buffer_sent q) → t ≡ tallied p.tallies Pass
    → IsPlain (record p { second = c; history = k; tallies = t })
    × (seen_of (record p { second = c; history = k; tallies = t }) ≡ side_hand_buffer now.seen b (buffer_sent q)) × (far_of (record p { second = c; history = k; tallies = t }) ≡ now.far)
handed_any1 p b q now c k t eb view may i ec ek et =
    as_found (HandsBuffer q) 1 b (record p { second = cell_of (p.second.hands + 1) p.second.given (Posted q); history = one_more p.history (buffer_sent q); tallies = tallied p.tallies Pass })
    (record p { second = c; history = k; tallies = t }) (plain_of p) now (λ m. handed_plain1 p q m i) eb (λ j. record p { second = ec j; history = ek j; tallies = et j }) view may

-- the table was handed
abbrev HandsTable : Parcel Table → ℕ → PlainParts → Plain → Type 0
HandsTable q n y now =
    MayHandTable now.fixed now.seen q.note q.body → IsPlain y × (seen_of y ≡ side_hand_table now.seen (table_sent q) q.body.turn) × (far_of y ≡ now.far)

pub handed_any2 : (p : PlainParts) (q : Parcel Table) (now : Plain) (c : Cell Table) (k : HandedSoFar) (t : Tallies) → plain_of p ≡ now
    → MayHandTable now.fixed now.seen q.note q.body → IsPlain p → c ≡ cell_of (p.third.hands + 1) p.third.given (Posted q) → k ≡ one_more p.history (table_sent q) → t ≡ record (tallied p.tallies Pass) { turn = q.body.turn }
    → IsPlain (record p { third = c; history = k; tallies = t })
    × (seen_of (record p { third = c; history = k; tallies = t }) ≡ side_hand_table now.seen (table_sent q) q.body.turn) × (far_of (record p { third = c; history = k; tallies = t }) ≡ now.far)
handed_any2 p q now c k t view may i ec ek et =
    as_found (HandsTable q) 2 2 (record p { third = cell_of (p.third.hands + 1) p.third.given (Posted q); history = one_more p.history (table_sent q); tallies = record (tallied p.tallies Pass) { turn = q.body.turn } })
    (record p { third = c; history = k; tallies = t }) (plain_of p) now (λ m. handed_plain2 p q m i) refl (λ j. record p { third = ec j; history = ek j; tallies = et j }) view may

-- a buffer was polled
abbrev FindsBuffer : PollOf (Parcel Contents) → ℕ → PlainParts → Plain → Type 0
FindsBuffer poll n y now = (far_slot_of now.far n).holds ≡ false → PollsBuffer n now.fixed now.seen now.far poll (seen_of y) (far_of y)

pub polled_any0 : (p : PlainParts) (b : ℕ) (now : Plain) (c : Cell Contents) (t : Tallies) (poll : PollOf (Parcel Contents)) (w : ℕ) → b ≡ 0 → plain_of p ≡ now
    → (far_slot_of now.far b).holds ≡ false → IsPlain p → w ≡ p.first.hands + p.first.given → c ≡ cell_of p.first.hands p.first.given (after_poll p.first.holder)
    → t ≡ tallied p.tallies (Try 0 w) → poll ≡ poll_of w p.first.holder
    → PollsBuffer b now.fixed now.seen now.far poll (seen_of (record p { first = c; tallies = t })) (far_of (record p { first = c; tallies = t }))
polled_any0 p b now c t poll w eb view free i ew ec et ep =
    let word = p.first.hands + p.first.given in
    let tries : t ≡ tallied p.tallies (Try 0 word) = et ∙ ap (λ (n : ℕ). tallied p.tallies (Try 0 n)) ew in
    let found : poll ≡ poll_of word p.first.holder = ep ∙ ap (λ (n : ℕ). poll_of n p.first.holder) ew in
    let y : PlainParts = record p { first = c; tallies = t } in
    subst (λ (z : PollOf (Parcel Contents)). FindsBuffer z b y now) (sym found)
    (as_found (FindsBuffer (poll_of word p.first.holder)) 0 b (record p { first = cell_of p.first.hands p.first.given (after_poll p.first.holder); tallies = tallied p.tallies (Try 0 word) }) y (plain_of p) now
    (λ m. (polled_plain0 p p.first.hands p.first.given p.first.holder m i).1) eb (λ j. record p { first = ec j; tallies = tries j }) view) free

pub polled_any1 : (p : PlainParts) (b : ℕ) (now : Plain) (c : Cell Contents) (t : Tallies) (poll : PollOf (Parcel Contents)) (w : ℕ) → b ≡ 1 → plain_of p ≡ now
    → (far_slot_of now.far b).holds ≡ false → IsPlain p → w ≡ p.second.hands + p.second.given → c ≡ cell_of p.second.hands p.second.given (after_poll p.second.holder)
    → t ≡ tallied p.tallies (Try 1 w) → poll ≡ poll_of w p.second.holder
    → PollsBuffer b now.fixed now.seen now.far poll (seen_of (record p { second = c; tallies = t })) (far_of (record p { second = c; tallies = t }))
polled_any1 p b now c t poll w eb view free i ew ec et ep =
    let word = p.second.hands + p.second.given in
    let tries : t ≡ tallied p.tallies (Try 1 word) = et ∙ ap (λ (n : ℕ). tallied p.tallies (Try 1 n)) ew in
    let found : poll ≡ poll_of word p.second.holder = ep ∙ ap (λ (n : ℕ). poll_of n p.second.holder) ew in
    let y : PlainParts = record p { second = c; tallies = t } in
    subst (λ (z : PollOf (Parcel Contents)). FindsBuffer z b y now) (sym found)
    (as_found (FindsBuffer (poll_of word p.second.holder)) 1 b (record p { second = cell_of p.second.hands p.second.given (after_poll p.second.holder); tallies = tallied p.tallies (Try 1 word) }) y (plain_of p) now
    (λ m. (polled_plain1 p p.second.hands p.second.given p.second.holder m i).1) eb (λ j. record p { second = ec j; tallies = tries j }) view) free

-- a poll that brought this parcel found it posted
posted_by : {B : Type 0} (w : ℕ) (s : Holder B) (q : Parcel B) → Got q ≡ poll_of w s → s ≡ Posted q
posted_by w (AtHome x) q h = cc
posted_by w WithDriver q h = cc
posted_by {B = B} w (Posted r) q h = let e : q ≡ r = cc in ap (λ (z : Parcel B). Posted z) (sym e)
posted_by w WithDaemon q h = cc

-- the table was taken
abbrev TakesIt : Parcel Table → Plain → PlainParts → Type 0
TakesIt q now y = IsPlain y × PollsTable now.fixed now.seen now.far (Got q) (seen_of y) (far_of y)

pub taken_any : (p : PlainParts) (now : Plain) (c : Cell Table) (t : Tallies) (q : Parcel Table) (w : ℕ) → plain_of p ≡ now → IsPlain p → w ≡ p.third.hands + p.third.given
    → c ≡ cell_of p.third.hands p.third.given (after_poll p.third.holder) → t ≡ record (tallied p.tallies (Try 2 w)) { far_turn = q.body.turn } → Got q ≡ poll_of w p.third.holder
    → IsPlain (record p { third = c; tallies = t })
    × PollsTable now.fixed now.seen now.far (Got q) (seen_of (record p { third = c; tallies = t })) (far_of (record p { third = c; tallies = t }))
taken_any p now c t q w view i ew ec et ep =
    let h = p.third.hands in let g = p.third.given in
    let x : PlainParts = record p { third = cell_of h g WithDaemon; tallies = record (tallied p.tallies (Try 2 (h + g))) { far_turn = q.body.turn } } in
    let e : p.third.holder ≡ Posted q = posted_by w p.third.holder q ep in
    let base : TakesIt q (plain_of p) x =
    subst (λ (s : Holder Table). TakesIt q (plain_of (record p { third = cell_of h g s })) x) (sym e)
    (taken_plain2 p h g q (subst (λ (s : Holder Table). IsPlain (record p { third = cell_of h g s })) e i)) in
    let cell : c ≡ cell_of h g WithDaemon = ec ∙ ap (λ (s : Holder Table). cell_of h g (after_poll s)) e in
    let tries : t ≡ record (tallied p.tallies (Try 2 (h + g))) { far_turn = q.body.turn } = et ∙ ap (λ (n : ℕ). record (tallied p.tallies (Try 2 n)) { far_turn = q.body.turn }) ew in
    as_found (λ n y z. TakesIt q z y) 2 2 x (record p { third = c; tallies = t }) (plain_of p) now base refl (λ j. record p { third = cell j; tallies = tries j }) view

-- the buffer that is left
pub one_left : (b : ℕ) → b ≤ 1 → (b ≡ 0 → ⊥) → b ≡ 1
one_left zero l e = absurd (e refl)
one_left (suc zero) l e = refl
one_left (suc (suc b)) l e = absurd (omega arith)
