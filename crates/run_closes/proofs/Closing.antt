-- All that was handed was taken, where the flush of the close was complete.
use Rattle.std.proofs.Common.{◌≡◌, ℕ, ◌%◌, ◌<◌, ◌≤◌, true, List, [], ◌∷◌, ◌++◌, length, refl, sym, ap, ◌∙◌, subst, arith, inl, ⊎_elim, append_assoc, Option, Some, None, eqb, leb, eqb-true, leb-true, length-append, true≢false}
use Rattle.std.specs.Prelude.{◌⊎◌}
use Rattle.std.proofs.lemmas.Bool.{cond-true, cond-false, cases_lt, eq-eqb, ne_eqb}
use Rattle.sample_key.specs.Sent.{Sent}
use Rattle.sample_key.specs.declared.losses.Pace.{Pace}
use Rattle.trace_model.specs.Recording.{Recording}
use Rattle.driver_model.specs.Lists.{EachFrom, AllOf}
use Rattle.driver_model.specs.Sides.{Slot, Side}
use Rattle.driver_model.specs.Handover.{FarSlot, FarSide}
use Rattle.driver_model.specs.Driver.{Setup, Driver}
use Rattle.driver_model.specs.Invariant.{DriverInvariant, last_answer}
use Rattle.driver_laws.proofs.Parts.{each_last}
use Rattle.database_model.specs.Runs.{Drained}
use Rattle.run_model.specs.Daemon.{answering, reaches, is_flushed}
use Rattle.run_model.specs.Running.{setup_of}
use Rattle.run_model.specs.Shares.{Share, batches_in}
use Rattle.run_laws.proofs.Draining.{both_parts}
use Rattle.run_joins.specs.Joins.{AreFirst, IsJoined}
use Rattle.run_closes.specs.Closes.{WasHandedOver, IsAllTaken, WasClosed}

-- the answer of the last batch
last_is : (n : ℕ) (xs : List Sent) (y : Sent) → last_answer n (xs ++ y ∷ []) ≡ y.note.answers
last_is n [] y = refl
last_is n (x ∷ xs) y = last_is x.note.answers xs y

-- no batch answers a value above all
none_answers : (value : ℕ) (xs : List Sent) → AllOf (λ a. a.note.answers < value) xs → answering value xs ≡ None
none_answers value [] low = refl
none_answers value (x ∷ xs) low =
    cond-false {A = Option Sent} (eqb x.note.answers value) (Some x) (answering value xs) (ne_eqb x.note.answers value (λ e. omega (arith, e, low.0))) ∙ none_answers value xs low.1

-- the last batch is the first that answers its value
last_answers : (value : ℕ) (xs : List Sent) (y : Sent) → AllOf (λ a. a.note.answers < value) xs → y.note.answers ≡ value → answering value (xs ++ y ∷ []) ≡ Some y
last_answers value [] y low e = cond-true {A = Option Sent} (eqb y.note.answers value) (Some y) None (eq-eqb y.note.answers value e)
last_answers value (x ∷ xs) y low e =
    cond-false {A = Option Sent} (eqb x.note.answers value) (Some x) (answering value (xs ++ y ∷ [])) (ne_eqb x.note.answers value (λ s. omega (arith, s, low.0))) ∙ last_answers value xs y low.1 e

-- a cell that was closed: all was taken, or all but the last
all_but_one : (slot : Slot) (far : FarSlot) → WasHandedOver slot far → (far.taken ≡ slot.handed) ⊎ ((waiting : Sent) × (slot.handed ≡ far.taken ++ waiting ∷ []))
all_but_one slot far h =
    let over = h.2 in
    ⊎_elim (λ odd. (over.out (omega (arith, odd))).1) (λ even. inl (over.home (omega (arith, even))).1) (cases_lt 0 (h.1 % 2))

-- a cell of which as many were taken as were handed
enough : (slot : Slot) (far : FarSlot) → WasHandedOver slot far → length slot.handed ≤ length far.taken → far.taken ≡ slot.handed
enough slot far h many =
    ⊎_elim (λ e. e) (λ w. absurd (omega (arith, many, ap (λ xs. length xs) w.1, length-append far.taken (w.0 ∷ [])))) (all_but_one slot far h)

-- the fact of each table batch that was handed
abbrev Rises : List Sent → Sent → Type 0
Rises done batch = (batch.note.answers % 2 ≡ 1) × AllOf (λ before. before.note.answers < batch.note.answers) done

-- a list of table batches that rise to this value, with its last
climbs : (value : ℕ) (handed front : List Sent) (batch : Sent) → handed ≡ front ++ batch ∷ [] → EachFrom Rises [] handed → last_answer 0 handed ≡ value
    → (batch.note.answers ≡ value) × AllOf (λ a. a.note.answers < value) front
climbs value handed front batch e rise last =
    let top : batch.note.answers ≡ value = sym (last_is 0 front batch) ∙ ap (λ xs. last_answer 0 xs) (sym e) ∙ last in
    let below = (each_last Rises [] front batch (subst (λ (z : List Sent). EachFrom Rises [] z) e rise)).1 in
    (top, subst (λ (n : ℕ). AllOf (λ a. a.note.answers < n) front) top below)

-- the table batches
tables_taken : (value : ℕ) (slot : Slot) (far : FarSide) → WasHandedOver slot far.third → EachFrom Rises [] slot.handed → last_answer 0 slot.handed ≡ value → is_flushed value far ≡ true
    → far.third.taken ≡ slot.handed
tables_taken value slot far h rise last flushed =
    ⊎_elim (λ e. e) (λ w.
    let low = (climbs value slot.handed far.third.taken w.0 w.1 rise last).1 in
    absurd (true≢false (sym flushed ∙ ap (λ o. reaches far o) (none_answers value far.third.taken low)))) (all_but_one slot far.third h)

pub all_is_taken : (setup : Setup) (driver : Driver) (side : Side) (far : FarSide) → DriverInvariant setup driver side → driver.done ≡ true
    → WasHandedOver side.first far.first → WasHandedOver side.second far.second → WasHandedOver side.third far.third → is_flushed setup.last far ≡ true → IsAllTaken side far
all_is_taken setup driver side far i done cell0 cell1 cell2 flushed =
    let last : last_answer 0 side.third.handed ≡ setup.last = i.answers_rise.last ∙ eqb-true driver.answered setup.last (sym i.closed.done ∙ done) in
    let third = tables_taken setup.last side.third far cell2 i.answers_rise.rise last flushed in
    let names = (i.closed.end done).last in
    let front = names.0 in let batch = names.1 in
    let top = climbs setup.last side.third.handed front batch names.2 i.answers_rise.rise last in
    let found : answering setup.last far.third.taken ≡ Some batch = ap (λ xs. answering setup.last xs) (third ∙ names.2) ∙ last_answers setup.last front batch top.1 top.0 in
    let reached = both_parts (leb batch.note.sent0 (length far.first.taken)) (leb batch.note.sent1 (length far.second.taken)) (sym (ap (λ o. reaches far o) found) ∙ flushed) in
    record {
      first = enough side.first far.first cell0 (omega (arith, leb-true batch.note.sent0 (length far.first.taken) reached.0, names.3, i.in_step.hands0));
      second = enough side.second far.second cell1 (omega (arith, leb-true batch.note.sent1 (length far.second.taken) reached.1, names.4, i.in_step.hands1));
      third = third;
    }

pub closed_are_joined : (pace : Pace) (trace : Recording) (cpu : ℕ) (driver : Driver) (side : Side) (far : FarSide) (share : Share) → WasClosed pace trace cpu driver side far share
    → IsJoined pace trace cpu driver side share
closed_are_joined pace trace cpu driver side far share h =
    let all = all_is_taken (setup_of pace trace cpu) driver side far h.lane h.done h.cell0 h.cell1 h.cell2 h.flushed in
    record {
      lane = h.lane;
      buckets = h.buckets;
      done = h.done;
      losses = h.losses;
      all0 = h.taken0 ∙ all.first;
      all1 = h.taken1 ∙ all.second;
      all2 = h.taken2 ∙ all.third;
      due0 = h.due0;
      due1 = h.due1;
      due2 = h.due2;
      collected = h.collected;
    }

-- a front of what was taken is a front of what was handed
pub fronts_are_first : (slot : Slot) (far : FarSlot) (drains : List Drained) → WasHandedOver slot far → AreFirst drains far.taken → AreFirst drains slot.handed
fronts_are_first slot far drains h first =
    ⊎_elim (λ e. (first.0, first.1 ∙ e)) (λ w.
    (first.0 ++ w.0 ∷ [], sym (append_assoc (batches_in drains) first.0 (w.0 ∷ [])) ∙ ap (λ xs. xs ++ w.0 ∷ []) first.1 ∙ sym w.1)) (all_but_one slot far h)
