-- What each call of a plain side does, over its parts.
use Rattle.std.proofs.Common.{◌≡◌, ℕ, ◌+◌, ◌-◌, ◌/◌, ◌^◌, ◌≤◌, List, [], ◌∷◌, ◌++◌, length, refl, sym, ◌∙◌, ap, subst, arith, true, false, Some}
use Rattle.sample_key.specs.Headers.{Header}
use Rattle.sample_key.specs.Marks.{due}
use Rattle.sample_key.specs.Sent.{Sent}
use Rattle.sample_key.specs.declared.batches.Parcel.{Parcel}
use Rattle.driver_model.specs.Table.{Table, entries_in, empty_table}
use Rattle.driver_model.specs.Sides.{Side, side_hand_buffer, side_hand_table}
use Rattle.driver_model.specs.Handover.{rung_of, WasRung, far_gave_buffer, far_gave_table, side_called}
use Rattle.driver_laws.proofs.Marks.{due_later}
use Rattle.overflow_pair.specs.Contents.{Contents, empty_buffer}
use Rattle.lane_side.specs.Calls.{KeepsNote, MayHandBuffer, MayHandTable, LooksAtBuffer, LooksAtTable, PollsBuffer, PollsTable, buffer_sent, table_sent}
use Rattle.lane_side.specs.HandedSoFar.{one_more}
use Rattle.lane_side.specs.Cells.{is_drivers, is_daemons, after_look, look_of, after_poll, poll_of, cell_of}
use Rattle.lane_side.specs.Tallied.{tallied}
use Rattle.lane_side.specs.Plain.{PlainParts, handed_in, slot_in, far_slot_in, seen_of, far_of, fixed_of, BufferHome, BufferPosted, TableHome, TablePosted, IsPlain}
use Rattle.lane_side.specs.declared.cells.Holder.{Holder}
use Rattle.lane_side.specs.declared.cells.Holder.TheVariants.{AtHome, Posted, WithDaemon}
use Rattle.lane_side.specs.declared.call_log.Call.TheVariants.{Hear, Try, Pass, Ring}
use Rattle.lane_side.proofs.Bells.{last-push, was_rung, still_rung, rises_push, note_later}
use Rattle.lane_side.proofs.CellLemmas.{own_push, other_push, look_cell, poll_cell, hand_cell, hand_far, give_cell, along_cell, later_cell}

-- the facts of the parcels of a side's cells, and of its table at home
abbrev pub Posted0 : ℕ → PlainParts → Parcel Contents → Type 0
Posted0 n p = BufferPosted n (fixed_of p) p.buffer p.tallies.rungs

abbrev pub Posted2 : PlainParts → Parcel Table → Type 0
Posted2 p = TablePosted (fixed_of p) p.buckets p.tallies.rungs p.tallies.turn

abbrev pub Gone2 : PlainParts → Type 0
Gone2 p = p.tallies.far_turn ≡ p.tallies.turn

-- the bell was heard
pub heard_plain : (p : PlainParts) → IsPlain p → IsPlain (record p { tallies = tallied p.tallies (Hear p.bell) })
heard_plain p i = record {
  first = i.first;
  second = i.second;
  third = i.third;
  bell = i.bell;
  rising = i.rising;
  bound = i.bound;
  heard = omega arith;
  known = subst (λ (n : ℕ). WasRung n p.tallies.rungs) (sym i.bell) (was_rung p.tallies.rungs);
}

-- the bell was rung
pub rang_plain : (p : PlainParts) (w : ℕ) → rung_of p.tallies.rungs ≤ w → w ≤ 2 ^ 32 → IsPlain p → IsPlain (record p { bell = w; tallies = tallied p.tallies (Ring w) })
rang_plain p w later bound i =
    let q : PlainParts = record p { bell = w; tallies = tallied p.tallies (Ring w) } in
    record {
      first = later_cell (handed_in 0 p.history.sent) buffer_sent (BufferHome p.buffer) (Posted0 0 p) (Posted0 0 q) (Unit {0}) p.first
          (λ x k. (note_later 0 (length x.body.entries) (fixed_of p) p.tallies.rungs w x.note later k.0, k.1, k.2)) i.first;
      second = later_cell (handed_in 1 p.history.sent) buffer_sent (BufferHome p.buffer) (Posted0 1 p) (Posted0 1 q) (Unit {0}) p.second
          (λ x k. (note_later 1 (length x.body.entries) (fixed_of p) p.tallies.rungs w x.note later k.0, k.1, k.2)) i.second;
      third = later_cell (handed_in 2 p.history.sent) table_sent (TableHome p.buckets p.tallies.turn) (Posted2 p) (Posted2 q) (Gone2 p) p.third
          (λ x k. (note_later 2 (length (entries_in x.body)) (fixed_of p) p.tallies.rungs w x.note later k.0, still_rung x.note.answers w p.tallies.rungs k.1, k.2, k.3)) i.third;
      bell = sym (last-push 0 p.tallies.rungs w);
      rising = rises_push 0 p.tallies.rungs w i.rising later;
      bound = bound;
      heard = omega (arith, i.heard, i.bell);
      known = still_rung p.tallies.heard w p.tallies.rungs i.known;
    }

-- cell 0 was looked at
pub looked_plain0 : (p : PlainParts) (h g : ℕ) (s : Holder Contents) → is_drivers s ≡ false → IsPlain (record p { first = cell_of h g s })
    → IsPlain (record p { first = cell_of h g (after_look s); tallies = tallied p.tallies (Try 0 (h + g)) })
    × LooksAtBuffer 0 (seen_of (record p { first = cell_of h g s })) (far_of (record p { first = cell_of h g s })) (look_of (h + g) s) (seen_of (record p { first = cell_of h g (after_look s); tallies = tallied p.tallies (Try 0 (h + g)) }))
    × (far_of (record p { first = cell_of h g (after_look s); tallies = tallied p.tallies (Try 0 (h + g)) }) ≡ far_of (record p { first = cell_of h g s }))
looked_plain0 p h g s free i =
    let old : PlainParts = record p { first = cell_of h g s } in let hs = handed_in 0 p.history.sent in
    let c = look_cell hs buffer_sent (BufferHome p.buffer) (Posted0 0 p) (Unit {0}) h g s free i.first in let f = c.1 in (
      record { first = c.0; second = i.second; third = i.third; bell = i.bell; rising = i.rising; bound = i.bound; heard = i.heard; known = i.known },
      record {
        side = λ j. record (seen_of old) { steps = p.tallies.steps + 1; first = record { handed = hs; holds = f.holds j; tries = p.tallies.tries0 + 1; read = h + g } };
        told = f.told;
        cause = f.cause;
      },
      (λ j. record (far_of old) { first = record { taken = f.taken j; holds = f.far j } }),
    )

-- cell 1 was looked at
pub looked_plain1 : (p : PlainParts) (h g : ℕ) (s : Holder Contents) → is_drivers s ≡ false → IsPlain (record p { second = cell_of h g s })
    → IsPlain (record p { second = cell_of h g (after_look s); tallies = tallied p.tallies (Try 1 (h + g)) })
    × LooksAtBuffer 1 (seen_of (record p { second = cell_of h g s })) (far_of (record p { second = cell_of h g s })) (look_of (h + g) s) (seen_of (record p { second = cell_of h g (after_look s); tallies = tallied p.tallies (Try 1 (h + g)) }))
    × (far_of (record p { second = cell_of h g (after_look s); tallies = tallied p.tallies (Try 1 (h + g)) }) ≡ far_of (record p { second = cell_of h g s }))
looked_plain1 p h g s free i =
    let old : PlainParts = record p { second = cell_of h g s } in let hs = handed_in 1 p.history.sent in
    let c = look_cell hs buffer_sent (BufferHome p.buffer) (Posted0 1 p) (Unit {0}) h g s free i.second in let f = c.1 in (
      record { first = i.first; second = c.0; third = i.third; bell = i.bell; rising = i.rising; bound = i.bound; heard = i.heard; known = i.known },
      record {
        side = λ j. record (seen_of old) { steps = p.tallies.steps + 1; second = record { handed = hs; holds = f.holds j; tries = p.tallies.tries1 + 1; read = h + g } };
        told = f.told;
        cause = f.cause;
      },
      (λ j. record (far_of old) { second = record { taken = f.taken j; holds = f.far j } }),
    )

-- cell 2 was looked at
pub looked_plain2 : (p : PlainParts) (h g : ℕ) (s : Holder Table) → is_drivers s ≡ false → IsPlain (record p { third = cell_of h g s })
    → IsPlain (record p { third = cell_of h g (after_look s); tallies = tallied p.tallies (Try 2 (h + g)) })
    × LooksAtTable (seen_of (record p { third = cell_of h g s })) (far_of (record p { third = cell_of h g s })) (look_of (h + g) s) (seen_of (record p { third = cell_of h g (after_look s); tallies = tallied p.tallies (Try 2 (h + g)) }))
    × (far_of (record p { third = cell_of h g (after_look s); tallies = tallied p.tallies (Try 2 (h + g)) }) ≡ far_of (record p { third = cell_of h g s }))
looked_plain2 p h g s free i =
    let old : PlainParts = record p { third = cell_of h g s } in let hs = handed_in 2 p.history.sent in
    let c = look_cell hs table_sent (TableHome p.buckets p.tallies.turn) (Posted2 p) (Gone2 p) h g s free i.third in let f = c.1 in (
      record { first = i.first; second = i.second; third = c.0; bell = i.bell; rising = i.rising; bound = i.bound; heard = i.heard; known = i.known },
      record {
        side = λ j. record (seen_of old) { steps = p.tallies.steps + 1; third = record { handed = hs; holds = f.holds j; tries = p.tallies.tries2 + 1; read = h + g } };
        told = f.told;
        cause = f.cause;
      },
      (λ j. record (far_of old) { third = record { taken = f.taken j; holds = f.far j } }),
    )

-- cell 0 was polled
pub polled_plain0 : (p : PlainParts) (h g : ℕ) (s : Holder Contents) → is_daemons s ≡ false → IsPlain (record p { first = cell_of h g s })
    → IsPlain (record p { first = cell_of h g (after_poll s); tallies = tallied p.tallies (Try 0 (h + g)) })
    × PollsBuffer 0 (fixed_of (record p { first = cell_of h g s })) (seen_of (record p { first = cell_of h g s })) (far_of (record p { first = cell_of h g s })) (poll_of (h + g) s) (seen_of (record p { first = cell_of h g (after_poll s); tallies = tallied p.tallies (Try 0 (h + g)) })) (far_of (record p { first = cell_of h g (after_poll s); tallies = tallied p.tallies (Try 0 (h + g)) }))
polled_plain0 p h g (Posted q) free i =
    let f = poll_cell (handed_in 0 p.history.sent) buffer_sent (BufferHome p.buffer) (Posted0 0 p) (Unit {0}) h g (Posted q) free i.first in let c = f.cause in (
      record { first = record { hands = i.first.hands; bound = i.first.bound; state = (i.first.state.0, tt) }; second = i.second; third = i.third; bell = i.bell; rising = i.rising; bound = i.bound; heard = i.heard; known = i.known },
      record {
        side = refl;
        told = f.told;
        cause = record {
          odd = c.0;
          far = ap (λ (z : List Sent). record (far_of (record p { first = cell_of h g (Posted q) })) { first = record { taken = z; holds = true } }) c.3;
          note = c.1.0;
          answers = c.1.1;
          size = c.1.2;
          last = c.2;
        };
      },
    )
polled_plain0 p h g WithDaemon free i = cc
polled_plain0 p h g s free i =
    let f = poll_cell (handed_in 0 p.history.sent) buffer_sent (BufferHome p.buffer) (Posted0 0 p) (Unit {0}) h g s free i.first in (
      record { first = i.first; second = i.second; third = i.third; bell = i.bell; rising = i.rising; bound = i.bound; heard = i.heard; known = i.known },
      record { side = refl; told = f.told; cause = record { word = refl; even = f.cause.1; far = refl } },
    )

-- cell 1 was polled
pub polled_plain1 : (p : PlainParts) (h g : ℕ) (s : Holder Contents) → is_daemons s ≡ false → IsPlain (record p { second = cell_of h g s })
    → IsPlain (record p { second = cell_of h g (after_poll s); tallies = tallied p.tallies (Try 1 (h + g)) })
    × PollsBuffer 1 (fixed_of (record p { second = cell_of h g s })) (seen_of (record p { second = cell_of h g s })) (far_of (record p { second = cell_of h g s })) (poll_of (h + g) s) (seen_of (record p { second = cell_of h g (after_poll s); tallies = tallied p.tallies (Try 1 (h + g)) })) (far_of (record p { second = cell_of h g (after_poll s); tallies = tallied p.tallies (Try 1 (h + g)) }))
polled_plain1 p h g (Posted q) free i =
    let f = poll_cell (handed_in 1 p.history.sent) buffer_sent (BufferHome p.buffer) (Posted0 1 p) (Unit {0}) h g (Posted q) free i.second in let c = f.cause in (
      record { first = i.first; second = record { hands = i.second.hands; bound = i.second.bound; state = (i.second.state.0, tt) }; third = i.third; bell = i.bell; rising = i.rising; bound = i.bound; heard = i.heard; known = i.known },
      record {
        side = refl;
        told = f.told;
        cause = record {
          odd = c.0;
          far = ap (λ (z : List Sent). record (far_of (record p { second = cell_of h g (Posted q) })) { second = record { taken = z; holds = true } }) c.3;
          note = c.1.0;
          answers = c.1.1;
          size = c.1.2;
          last = c.2;
        };
      },
    )
polled_plain1 p h g WithDaemon free i = cc
polled_plain1 p h g s free i =
    let f = poll_cell (handed_in 1 p.history.sent) buffer_sent (BufferHome p.buffer) (Posted0 1 p) (Unit {0}) h g s free i.second in (
      record { first = i.first; second = i.second; third = i.third; bell = i.bell; rising = i.rising; bound = i.bound; heard = i.heard; known = i.known },
      record { side = refl; told = f.told; cause = record { word = refl; even = f.cause.1; far = refl } },
    )

-- cell 2 was polled, and nothing waited
pub unpolled_plain2 : (p : PlainParts) (h g : ℕ) (s : Holder Table) → (s ≡ after_poll s) → is_daemons s ≡ false → IsPlain (record p { third = cell_of h g s })
    → IsPlain (record p { third = cell_of h g s; tallies = tallied p.tallies (Try 2 (h + g)) })
    × PollsTable (fixed_of (record p { third = cell_of h g s })) (seen_of (record p { third = cell_of h g s })) (far_of (record p { third = cell_of h g s })) (poll_of (h + g) s) (seen_of (record p { third = cell_of h g s; tallies = tallied p.tallies (Try 2 (h + g)) })) (far_of (record p { third = cell_of h g s; tallies = tallied p.tallies (Try 2 (h + g)) }))
unpolled_plain2 p h g (Posted q) same free i = cc
unpolled_plain2 p h g WithDaemon same free i = cc
unpolled_plain2 p h g s same free i =
    let f = poll_cell (handed_in 2 p.history.sent) table_sent (TableHome p.buckets p.tallies.turn) (Posted2 p) (Gone2 p) h g s free i.third in (
      record { first = i.first; second = i.second; third = i.third; bell = i.bell; rising = i.rising; bound = i.bound; heard = i.heard; known = i.known },
      record { side = refl; told = f.told; cause = record { word = refl; even = f.cause.1; far = refl } },
    )

-- the table was taken
pub taken_plain2 : (p : PlainParts) (h g : ℕ) (q : Parcel Table) → IsPlain (record p { third = cell_of h g (Posted q) })
    → IsPlain (record p { third = cell_of h g WithDaemon; tallies = record (tallied p.tallies (Try 2 (h + g))) { far_turn = q.body.turn } })
    × PollsTable (fixed_of (record p { third = cell_of h g (Posted q) })) (seen_of (record p { third = cell_of h g (Posted q) })) (far_of (record p { third = cell_of h g (Posted q) })) (poll_of (h + g) (Posted q)) (seen_of (record p { third = cell_of h g WithDaemon; tallies = record (tallied p.tallies (Try 2 (h + g))) { far_turn = q.body.turn } })) (far_of (record p { third = cell_of h g WithDaemon; tallies = record (tallied p.tallies (Try 2 (h + g))) { far_turn = q.body.turn } }))
taken_plain2 p h g q i =
    let f = poll_cell (handed_in 2 p.history.sent) table_sent (TableHome p.buckets p.tallies.turn) (Posted2 p) (Gone2 p) h g (Posted q) refl i.third in let c = f.cause in (
      record { first = i.first; second = i.second; third = record { hands = i.third.hands; bound = i.third.bound; state = (i.third.state.0, c.1.3) }; bell = i.bell; rising = i.rising; bound = i.bound; heard = i.heard; known = i.known },
      record {
        side = refl;
        told = f.told;
        cause = record {
          odd = c.0;
          far = ap (λ (z : List Sent). record (far_of (record p { third = cell_of h g (Posted q) })) { third = record { taken = z; holds = true }; turn = q.body.turn }) c.3;
          note = c.1.0;
          answers = c.1.1;
          size = c.1.2;
          last = c.2;
          turn = c.1.3;
        };
      },
    )

-- the note of a hand keeps what a poll promises: the value heard is at most the one rung last
note_kept : (p : PlainParts) (n count : ℕ) (note : Header) → IsPlain p → note.cpu ≡ p.cpu → note.cell ≡ n → count ≤ note.upto → note.upto ≤ due p.samples (p.tallies.heard / 2)
    → KeepsNote n count (fixed_of p) p.tallies.rungs note
note_kept p n count note i cpu cell few upto = record {
  cpu = cpu;
  cell = cell;
  entries = few;
  upto = omega (arith, upto, due_later p.samples (p.tallies.heard / 2) (rung_of p.tallies.rungs / 2) (omega (arith, i.heard, i.bell)));
}

-- what the room is after a batch
abbrev side_with : PlainParts → Sent → Side
side_with p x = record (seen_of p) { steps = p.tallies.steps + 1; room = Some (record { hands = p.history.room.hands - 1; entries = p.history.room.entries - length x.entries }) }

-- cell 0 was handed
pub handed_plain0 : (p : PlainParts) (q : Parcel Contents) → MayHandBuffer 0 (fixed_of p) (seen_of p) q.note q.body → IsPlain p
    → IsPlain (record p { first = cell_of (p.first.hands + 1) p.first.given (Posted q); history = one_more p.history (buffer_sent q); tallies = tallied p.tallies Pass })
    × (seen_of (record p { first = cell_of (p.first.hands + 1) p.first.given (Posted q); history = one_more p.history (buffer_sent q); tallies = tallied p.tallies Pass }) ≡ side_hand_buffer (seen_of p) 0 (buffer_sent q))
    × (far_of (record p { first = cell_of (p.first.hands + 1) p.first.given (Posted q); history = one_more p.history (buffer_sent q); tallies = tallied p.tallies Pass }) ≡ far_of p)
handed_plain0 p q may i =
    let x : Sent = buffer_sent q in let sent = p.history.sent in
    let e0 : handed_in 0 (sent ++ x ∷ []) ≡ handed_in 0 sent ++ x ∷ [] = own_push 0 sent x may.hand.cell in
    let e1 : handed_in 1 (sent ++ x ∷ []) ≡ handed_in 1 sent = other_push 1 sent x (λ z. omega (arith, may.hand.cell, z)) in
    let e2 : handed_in 2 (sent ++ x ∷ []) ≡ handed_in 2 sent = other_push 2 sent x (λ z. omega (arith, may.hand.cell, z)) in
    let f = hand_far (handed_in 0 sent) (handed_in 0 (sent ++ x ∷ [])) p.first.holder x may.hand.holds e0 in
    let note : KeepsNote 0 (length q.body.entries) (fixed_of p) p.tallies.rungs q.note = note_kept p 0 (length q.body.entries) q.note i may.hand.cpu may.hand.cell may.hand.entries may.hand.upto in (
      record {
        first = hand_cell (handed_in 0 sent) (handed_in 0 (sent ++ x ∷ [])) buffer_sent (BufferHome p.buffer) (BufferHome p.buffer) (Posted0 0 p) (Posted0 0 p) (Unit {0}) (Unit {0}) p.first q
            may.hand.holds may.hand.times (note, may.answers, may.size) e0 i.first;
        second = along_cell (handed_in 1 sent) (handed_in 1 (sent ++ x ∷ [])) buffer_sent (BufferHome p.buffer) (Posted0 1 p) (Unit {0}) p.second e1 i.second;
        third = along_cell (handed_in 2 sent) (handed_in 2 (sent ++ x ∷ [])) table_sent (TableHome p.buckets p.tallies.turn) (Posted2 p) (Gone2 p) p.third e2 i.third;
        bell = i.bell;
        rising = i.rising;
        bound = i.bound;
        heard = i.heard;
        known = i.known;
      },
      (λ j. record (side_with p x) {
        first = record { handed = e0 j; holds = false; tries = p.tallies.tries0; read = p.tallies.read0 };
        second = slot_in (e1 j) p.second.holder p.tallies.tries1 p.tallies.read1;
        third = slot_in (e2 j) p.third.holder p.tallies.tries2 p.tallies.read2;
      }),
      (λ j. record (far_of p) {
        first = record { taken = f.0 j; holds = f.1 j };
        second = far_slot_in (e1 j) p.second.holder;
        third = far_slot_in (e2 j) p.third.holder;
      }),
    )

-- cell 1 was handed
pub handed_plain1 : (p : PlainParts) (q : Parcel Contents) → MayHandBuffer 1 (fixed_of p) (seen_of p) q.note q.body → IsPlain p
    → IsPlain (record p { second = cell_of (p.second.hands + 1) p.second.given (Posted q); history = one_more p.history (buffer_sent q); tallies = tallied p.tallies Pass })
    × (seen_of (record p { second = cell_of (p.second.hands + 1) p.second.given (Posted q); history = one_more p.history (buffer_sent q); tallies = tallied p.tallies Pass }) ≡ side_hand_buffer (seen_of p) 1 (buffer_sent q))
    × (far_of (record p { second = cell_of (p.second.hands + 1) p.second.given (Posted q); history = one_more p.history (buffer_sent q); tallies = tallied p.tallies Pass }) ≡ far_of p)
handed_plain1 p q may i =
    let x : Sent = buffer_sent q in let sent = p.history.sent in
    let e1 : handed_in 1 (sent ++ x ∷ []) ≡ handed_in 1 sent ++ x ∷ [] = own_push 1 sent x may.hand.cell in
    let e0 : handed_in 0 (sent ++ x ∷ []) ≡ handed_in 0 sent = other_push 0 sent x (λ z. omega (arith, may.hand.cell, z)) in
    let e2 : handed_in 2 (sent ++ x ∷ []) ≡ handed_in 2 sent = other_push 2 sent x (λ z. omega (arith, may.hand.cell, z)) in
    let f = hand_far (handed_in 1 sent) (handed_in 1 (sent ++ x ∷ [])) p.second.holder x may.hand.holds e1 in
    let note : KeepsNote 1 (length q.body.entries) (fixed_of p) p.tallies.rungs q.note = note_kept p 1 (length q.body.entries) q.note i may.hand.cpu may.hand.cell may.hand.entries may.hand.upto in (
      record {
        first = along_cell (handed_in 0 sent) (handed_in 0 (sent ++ x ∷ [])) buffer_sent (BufferHome p.buffer) (Posted0 0 p) (Unit {0}) p.first e0 i.first;
        second = hand_cell (handed_in 1 sent) (handed_in 1 (sent ++ x ∷ [])) buffer_sent (BufferHome p.buffer) (BufferHome p.buffer) (Posted0 1 p) (Posted0 1 p) (Unit {0}) (Unit {0}) p.second q
            may.hand.holds may.hand.times (note, may.answers, may.size) e1 i.second;
        third = along_cell (handed_in 2 sent) (handed_in 2 (sent ++ x ∷ [])) table_sent (TableHome p.buckets p.tallies.turn) (Posted2 p) (Gone2 p) p.third e2 i.third;
        bell = i.bell;
        rising = i.rising;
        bound = i.bound;
        heard = i.heard;
        known = i.known;
      },
      (λ j. record (side_with p x) {
        first = slot_in (e0 j) p.first.holder p.tallies.tries0 p.tallies.read0;
        second = record { handed = e1 j; holds = false; tries = p.tallies.tries1; read = p.tallies.read1 };
        third = slot_in (e2 j) p.third.holder p.tallies.tries2 p.tallies.read2;
      }),
      (λ j. record (far_of p) {
        first = far_slot_in (e0 j) p.first.holder;
        second = record { taken = f.0 j; holds = f.1 j };
        third = far_slot_in (e2 j) p.third.holder;
      }),
    )

-- cell 2 was handed
pub handed_plain2 : (p : PlainParts) (q : Parcel Table) → MayHandTable (fixed_of p) (seen_of p) q.note q.body → IsPlain p
    → IsPlain (record p { third = cell_of (p.third.hands + 1) p.third.given (Posted q); history = one_more p.history (table_sent q); tallies = record (tallied p.tallies Pass) { turn = q.body.turn } })
    × (seen_of (record p { third = cell_of (p.third.hands + 1) p.third.given (Posted q); history = one_more p.history (table_sent q); tallies = record (tallied p.tallies Pass) { turn = q.body.turn } }) ≡ side_hand_table (seen_of p) (table_sent q) q.body.turn)
    × (far_of (record p { third = cell_of (p.third.hands + 1) p.third.given (Posted q); history = one_more p.history (table_sent q); tallies = record (tallied p.tallies Pass) { turn = q.body.turn } }) ≡ far_of p)
handed_plain2 p q may i =
    let x : Sent = table_sent q in let sent = p.history.sent in
    let new : PlainParts = record p { tallies = record (tallied p.tallies Pass) { turn = q.body.turn } } in
    let e2 : handed_in 2 (sent ++ x ∷ []) ≡ handed_in 2 sent ++ x ∷ [] = own_push 2 sent x may.hand.cell in
    let e0 : handed_in 0 (sent ++ x ∷ []) ≡ handed_in 0 sent = other_push 0 sent x (λ z. omega (arith, may.hand.cell, z)) in
    let e1 : handed_in 1 (sent ++ x ∷ []) ≡ handed_in 1 sent = other_push 1 sent x (λ z. omega (arith, may.hand.cell, z)) in
    let f = hand_far (handed_in 2 sent) (handed_in 2 (sent ++ x ∷ [])) p.third.holder x may.hand.holds e2 in
    let note : KeepsNote 2 (length (entries_in q.body)) (fixed_of p) p.tallies.rungs q.note = note_kept p 2 (length (entries_in q.body)) q.note i may.hand.cpu may.hand.cell may.hand.entries may.hand.upto in
    let known : WasRung q.note.answers p.tallies.rungs = subst (λ (n : ℕ). WasRung n p.tallies.rungs) (sym may.answers) i.known in (
      record {
        first = along_cell (handed_in 0 sent) (handed_in 0 (sent ++ x ∷ [])) buffer_sent (BufferHome p.buffer) (Posted0 0 p) (Unit {0}) p.first e0 i.first;
        second = along_cell (handed_in 1 sent) (handed_in 1 (sent ++ x ∷ [])) buffer_sent (BufferHome p.buffer) (Posted0 1 p) (Unit {0}) p.second e1 i.second;
        third = hand_cell (handed_in 2 sent) (handed_in 2 (sent ++ x ∷ [])) table_sent (TableHome p.buckets p.tallies.turn) (TableHome p.buckets q.body.turn) (Posted2 p) (Posted2 new) (Gone2 p) (Gone2 new) p.third q
            may.hand.holds may.hand.times (note, known, may.size, refl) e2 i.third;
        bell = i.bell;
        rising = i.rising;
        bound = i.bound;
        heard = i.heard;
        known = i.known;
      },
      (λ j. record (side_with p x) {
        first = slot_in (e0 j) p.first.holder p.tallies.tries0 p.tallies.read0;
        second = slot_in (e1 j) p.second.holder p.tallies.tries1 p.tallies.read1;
        third = record { handed = e2 j; holds = false; tries = p.tallies.tries2; read = p.tallies.read2 };
        turn = q.body.turn;
      }),
      (λ j. record (far_of p) {
        first = far_slot_in (e0 j) p.first.holder;
        second = far_slot_in (e1 j) p.second.holder;
        third = record { taken = f.0 j; holds = f.1 j };
      }),
    )

-- the value of cell 0 was given back
pub given_plain0 : (p : PlainParts) (h g : ℕ) (x : Contents) → x ≡ empty_buffer p.buffer → IsPlain (record p { first = cell_of h g WithDaemon })
    → IsPlain (record p { first = cell_of h (g + 1) (AtHome x); tallies = tallied p.tallies Pass }) × (seen_of (record p { first = cell_of h (g + 1) (AtHome x); tallies = tallied p.tallies Pass }) ≡ side_called (seen_of (record p { first = cell_of h g WithDaemon }))) × (far_of (record p { first = cell_of h (g + 1) (AtHome x); tallies = tallied p.tallies Pass }) ≡ far_gave_buffer (far_of (record p { first = cell_of h g WithDaemon })) 0)
given_plain0 p h g x empty i = (
  record {
    first = give_cell (handed_in 0 p.history.sent) buffer_sent (BufferHome p.buffer) (Posted0 0 p) (Unit {0}) h g x empty i.first;
    second = i.second;
    third = i.third;
    bell = i.bell;
    rising = i.rising;
    bound = i.bound;
    heard = i.heard;
    known = i.known;
  },
  refl,
  refl,
)

-- the value of cell 1 was given back
pub given_plain1 : (p : PlainParts) (h g : ℕ) (x : Contents) → x ≡ empty_buffer p.buffer → IsPlain (record p { second = cell_of h g WithDaemon })
    → IsPlain (record p { second = cell_of h (g + 1) (AtHome x); tallies = tallied p.tallies Pass }) × (seen_of (record p { second = cell_of h (g + 1) (AtHome x); tallies = tallied p.tallies Pass }) ≡ side_called (seen_of (record p { second = cell_of h g WithDaemon }))) × (far_of (record p { second = cell_of h (g + 1) (AtHome x); tallies = tallied p.tallies Pass }) ≡ far_gave_buffer (far_of (record p { second = cell_of h g WithDaemon })) 1)
given_plain1 p h g x empty i = (
  record {
    first = i.first;
    second = give_cell (handed_in 1 p.history.sent) buffer_sent (BufferHome p.buffer) (Posted0 1 p) (Unit {0}) h g x empty i.second;
    third = i.third;
    bell = i.bell;
    rising = i.rising;
    bound = i.bound;
    heard = i.heard;
    known = i.known;
  },
  refl,
  refl,
)

-- the value of cell 2 was given back
pub given_plain2 : (p : PlainParts) (h g : ℕ) (x : Table) → x ≡ empty_table p.buckets p.tallies.far_turn → IsPlain (record p { third = cell_of h g WithDaemon })
    → IsPlain (record p { third = cell_of h (g + 1) (AtHome x); tallies = tallied p.tallies Pass }) × (seen_of (record p { third = cell_of h (g + 1) (AtHome x); tallies = tallied p.tallies Pass }) ≡ side_called (seen_of (record p { third = cell_of h g WithDaemon }))) × (far_of (record p { third = cell_of h (g + 1) (AtHome x); tallies = tallied p.tallies Pass }) ≡ far_gave_table (far_of (record p { third = cell_of h g WithDaemon })))
given_plain2 p h g x empty i = (
  record {
    first = i.first;
    second = i.second;
    third = give_cell (handed_in 2 p.history.sent) table_sent (TableHome p.buckets p.tallies.turn) (Posted2 p) (Gone2 p) h g x (empty ∙ ap (λ (n : ℕ). empty_table p.buckets n) i.third.state.1) i.third;
    bell = i.bell;
    rising = i.rising;
    bound = i.bound;
    heard = i.heard;
    known = i.known;
  },
  refl,
  refl,
)
