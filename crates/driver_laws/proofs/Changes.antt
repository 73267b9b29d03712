use Rattle.std.proofs.Common.{◌≡◌, ℕ, ◌+◌, ◌/◌, ◌<◌, ◌≤◌, List, [], ◌∷◌, length, drop, refl, sym, ◌∙◌, ap, subst, arith, Bool, true, false, Some, None, Option, eqb, ◌&&◌}
use Rattle.std.specs.Prelude.{is_some, IfSome, IsSomeAnd, slice_get}
use Rattle.sample_key.specs.Bags.{once, weight}
use Rattle.sample_key.specs.Counted.{Counted}
use Rattle.sample_key.specs.Marks.{IsRising}
use Rattle.sample_key.specs.Sent.{Sent}
use Rattle.sample_key.specs.declared.keys.Key.{Key}
use Rattle.sample_key.specs.declared.keys.Marked.{Marked}
use Rattle.sample_key.specs.declared.losses.Loss.{Loss}
use Rattle.driver_model.specs.Lists.{AllOf}
use Rattle.driver_model.specs.Table.{Table, IsTable, empty_table, add, given_out, needs_room}
use Rattle.driver_model.specs.Sides.{Side, is_even, side_hear, side_look_table, side_look_buffer}
use Rattle.driver_model.specs.Driver.{Setup, Driver, take_next, activate}
use Rattle.driver_model.specs.Invariant.{IsConserved, FullOrCut, is_active, LossesInOrder, table_entries, active_entries}
use Rattle.driver_laws.proofs.Lists.{each_map, all_map, all_any}
use Rattle.driver_laws.proofs.Weights.{times_next}
use Rattle.driver_laws.proofs.Adds.{out_weight, add_weighs, add_grows}
use Rattle.driver_laws.proofs.Tables.{table_kept, table_empty, empty_entries}
use Rattle.driver_laws.proofs.Marks.{due_later, due_next}
use Rattle.driver_laws.proofs.Loose.{Loose}
use Rattle.driver_laws.proofs.Parts.{upto_later, exact_same, bounded_from, out_count, tally_all, tally_placed, tally_written, out_none}

-- the small changes of a turn, each of which keeps the invariant

-- the driver with the table and the active buffer of another
abbrev pub with_held : Driver → Driver → Driver
with_held d e = record d { table = e.table; pair = record d.pair { active = e.pair.active; active_number = e.pair.active_number } }

-- the side with the calls, the bell, the words and the holds of another
abbrev pub with_words : Side → Side → Side
with_words v w = record v {
  first = record w.first { handed = v.first.handed };
  second = record w.second { handed = v.second.handed };
  third = record w.third { handed = v.third.handed };
  steps = w.steps;
  hears = w.hears;
  heard = w.heard;
}

-- What only changes the words, the bell and who holds what keeps the invariant, where the entries stay and the holds are
-- those of the driver; other table batches may cut the short batches.
pub kept_holds : (tables new : List Sent) (least most fewest fewer : ℕ) (u : Setup) (d e : Driver) (v w : Side)
    → ((cell : ℕ) (c : Sent) → FullOrCut cell u.size tables c → FullOrCut cell u.size new c)
    → table_entries e.table ≡ table_entries d.table → active_entries e.pair.active ≡ active_entries d.pair.active
    → w.first.holds ≡ is_active e.pair 0 → w.second.holds ≡ is_active e.pair 1 → w.third.holds ≡ is_some e.table
    → IfSome e.table (IsTable v.buckets) → IfSome e.pair.active (λ es. (fewest ≤ length es) × (length es < fewer)) → e.pair.active_number ≤ 1 → v.heard ≤ w.heard
    → Loose tables least most u d v → Loose new fewest fewer u (with_held d e) (with_words v w)
kept_holds tables new least most fewest fewer u d e v w more same_table same_active holds0 holds1 holds2 table active number heard i = record {
  conserved = λ k. omega (arith, i.conserved k, ap (λ (z : List Counted). weight k z) same_table, ap (λ (z : List Counted). weight k z) same_active);
  flushes = i.flushes;
  bounded = i.bounded;
  order0 = i.order0;
  order1 = i.order1;
  order2 = i.order2;
  sizes0 = all_map (FullOrCut 0 u.size tables) (FullOrCut 0 u.size new) (more 0) v.first.handed i.sizes0;
  sizes1 = all_map (FullOrCut 1 u.size tables) (FullOrCut 1 u.size new) (more 1) v.second.handed i.sizes1;
  fits = i.fits;
  explained = i.explained;
  holds0 = holds0;
  holds1 = holds1;
  holds2 = holds2;
  table = table;
  active = active;
  buckets = i.buckets;
  buffer = i.buffer;
  turn = i.turn;
  number = number;
  next = i.next;
  hands0 = i.hands0;
  hands1 = i.hands1;
  hands2 = i.hands2;
  at = omega (arith, i.at, due_later u.samples (v.heard / 2) (w.heard / 2) (omega arith));
  upto0 = i.upto0;
  upto1 = i.upto1;
  upto2 = i.upto2;
  in_order = i.in_order;
  rise = i.rise;
  last = i.last;
  heard = omega (arith, i.heard);
  placed = omega (arith, i.placed, ap (λ (z : List Counted). length z) same_table);
  written = omega (arith, i.written, ap (λ (z : List Counted). length z) same_active);
  all = i.all;
  exact = exact_same u d (with_held d e) v (with_words v w) u.pace refl refl i.exact;
  going = i.going;
  answered = i.answered;
}

-- the bell was heard
pub kept_hear : (tables : List Sent) (least most : ℕ) (u : Setup) (d : Driver) (v : Side) (w : ℕ) → v.heard ≤ w → Loose tables least most u d v → Loose tables least most u d (side_hear v w)
kept_hear tables least most u d v w later i =
    kept_holds tables tables least most least most u d d v (side_hear v w) (λ cell c h. h) refl refl i.holds0 i.holds1 i.holds2 i.table i.active i.number later i

-- the table is back
pub kept_table_back : (tables : List Sent) (least most : ℕ) (u : Setup) (d : Driver) (v : Side) (word : ℕ) → d.table ≡ None → is_even word ≡ true → Loose tables least most u d v
    → Loose tables least most u (record d { table = Some (empty_table v.buckets v.turn) }) (side_look_table v word)
kept_table_back tables least most u d v word none even i =
    kept_holds tables tables least most least most u d (record d { table = Some (empty_table v.buckets v.turn) }) v (side_look_table v word) (λ cell c h. h)
    (empty_entries v.buckets v.turn ∙ sym (ap (λ (z : Option Table). table_entries z) none)) refl i.holds0 i.holds1 even (table_empty v.buckets v.turn i.turn) i.active i.number (omega arith) i

-- the table is out
pub kept_table_out : (tables : List Sent) (least most : ℕ) (u : Setup) (d : Driver) (v : Side) (word : ℕ) → d.table ≡ None → is_even word ≡ false → Loose tables least most u d v → Loose tables least most u d (side_look_table v word)
kept_table_out tables least most u d v word none odd i =
    kept_holds tables tables least most least most u d d v (side_look_table v word) (λ cell c h. h) refl refl i.holds0 i.holds1
    (odd ∙ sym (ap (λ (z : Option Table). is_some z) none)) i.table i.active i.number (omega arith) i

-- buffer 0 is out
pub kept_out0 : (tables : List Sent) (least most : ℕ) (u : Setup) (d : Driver) (v : Side) (word : ℕ) → d.pair.active ≡ None → is_even word ≡ false → Loose tables least most u d v → Loose tables least most u d (side_look_buffer v 0 word)
kept_out0 tables least most u d v word none odd i =
    kept_holds tables tables least most least most u d d v (side_look_buffer v 0 word) (λ cell c h. h) refl refl
    (odd ∙ sym (ap (λ (z : Option (List Counted)). is_some z && eqb d.pair.active_number 0) none)) i.holds1 i.holds2 i.table i.active i.number (omega arith) i

-- buffer 0 is back and active
pub kept_back0 : (tables : List Sent) (least most : ℕ) (u : Setup) (d : Driver) (v : Side) (word : ℕ) → d.pair.active ≡ None → is_even word ≡ true → Loose tables least most u d v → Loose tables 0 v.buffer u (activate d 0) (side_look_buffer v 0 word)
kept_back0 tables least most u d v word none even i =
    kept_holds tables tables least most 0 v.buffer u d (activate d 0) v (side_look_buffer v 0 word) (λ cell c h. h) refl (sym (ap (λ (z : Option (List Counted)). active_entries z) none))
    even (i.holds1 ∙ ap (λ (z : Option (List Counted)). is_some z && eqb d.pair.active_number 1) none) i.holds2 i.table (omega arith, omega (arith, i.buffer)) (omega arith) (omega arith) i

-- buffer 1 is out
pub kept_out1 : (tables : List Sent) (least most : ℕ) (u : Setup) (d : Driver) (v : Side) (word : ℕ) → d.pair.active ≡ None → is_even word ≡ false → Loose tables least most u d v → Loose tables least most u d (side_look_buffer v 1 word)
kept_out1 tables least most u d v word none odd i =
    kept_holds tables tables least most least most u d d v (side_look_buffer v 1 word) (λ cell c h. h) refl refl
    i.holds0 (odd ∙ sym (ap (λ (z : Option (List Counted)). is_some z && eqb d.pair.active_number 1) none)) i.holds2 i.table i.active i.number (omega arith) i

-- buffer 1 is back and active
pub kept_back1 : (tables : List Sent) (least most : ℕ) (u : Setup) (d : Driver) (v : Side) (word : ℕ) → d.pair.active ≡ None → is_even word ≡ true → Loose tables least most u d v → Loose tables 0 v.buffer u (activate d 1) (side_look_buffer v 1 word)
kept_back1 tables least most u d v word none even i =
    kept_holds tables tables least most 0 v.buffer u d (activate d 1) v (side_look_buffer v 1 word) (λ cell c h. h) refl (sym (ap (λ (z : Option (List Counted)). active_entries z) none))
    (i.holds0 ∙ ap (λ (z : Option (List Counted)). is_some z && eqb d.pair.active_number 0) none) even i.holds2 i.table (omega arith, omega (arith, i.buffer)) (omega arith) (omega arith) i

-- losses are in order also when more was taken
pub losses_later : (u : Setup) (d : Driver) (n : ℕ) → d.at ≤ n → LossesInOrder u d → LossesInOrder u (record d { at = n })
losses_later u d n l h = each_map
    (λ done m. (m.index < d.at) × AllOf (λ o. o.index < m.index) done × IsSomeAnd (slice_get u.samples m.index) (λ s. m.event ≡ s.key.event))
    (λ done m. (m.index < n) × AllOf (λ o. o.index < m.index) done × IsSomeAnd (slice_get u.samples m.index) (λ s. m.event ≡ s.key.event))
    (λ m. Unit {0}) (λ done m r g. (omega (arith, g.0), g.1, g.2)) [] d.losses (all_any (λ (m : Loss). Unit {0}) (λ m. tt) d.losses) h

-- the driver after it took a sample, with the table, the active buffer and the statistics of another
abbrev with_taken : Driver → Driver → Driver
with_taken d e = record d { at = d.at + 1; table = e.table; pair = record d.pair { active = e.pair.active }; stats = e.stats }

-- Where a sample that is due was taken, the invariant is kept if the table and the active buffer gained that sample alone,
-- the same values are held, and the statistics follow.
pub kept_taken : (tables : List Sent) (least most fewest fewer : ℕ) (u : Setup) (d e : Driver) (v : Side) (s : Marked) (rest : List Marked)
    → IsRising u.samples → drop d.at u.samples ≡ s ∷ rest → s.mark ≤ v.heard / 2
    → is_some d.table ≡ is_some e.table → is_some d.pair.active ≡ is_some e.pair.active
    → IfSome e.table (IsTable v.buckets) → IfSome e.pair.active (λ es. (fewest ≤ length es) × (length es < fewer))
    → ((k : Key) → weight k (table_entries e.table) + weight k (active_entries e.pair.active) ≡ weight k (table_entries d.table) + weight k (active_entries d.pair.active) + once k s.key)
    → e.stats.placed + length (table_entries d.table) ≡ d.stats.placed + length (table_entries e.table)
    → e.stats.evicted + e.stats.spilt + e.stats.direct + length (active_entries d.pair.active) ≡ d.stats.evicted + d.stats.spilt + d.stats.direct + length (active_entries e.pair.active)
    → e.stats.folded + e.stats.placed + e.stats.evicted + e.stats.spilt + e.stats.direct ≡ d.stats.folded + d.stats.placed + d.stats.evicted + d.stats.spilt + d.stats.direct + 1
    → Loose tables least most u d v → Loose tables fewest fewer u (with_taken d e) v
kept_taken tables least most fewest fewer u d e v s rest rising left mark holds_table holds_active table active gained placed written all i =
    let conserved : IsConserved u (with_taken d e) v = λ k. omega (arith, i.conserved k, gained k, times_next k d.at u.samples s rest left) in
    record {
      conserved = conserved;
      flushes = i.flushes;
      bounded = bounded_from u (with_taken d e) v conserved (λ n k l. i.bounded n k (omega arith));
      order0 = i.order0;
      order1 = i.order1;
      order2 = i.order2;
      sizes0 = i.sizes0;
      sizes1 = i.sizes1;
      fits = i.fits;
      explained = i.explained;
      holds0 = i.holds0 ∙ ap (λ (z : Bool). z && eqb d.pair.active_number 0) holds_active;
      holds1 = i.holds1 ∙ ap (λ (z : Bool). z && eqb d.pair.active_number 1) holds_active;
      holds2 = i.holds2 ∙ holds_table;
      table = table;
      active = active;
      buckets = i.buckets;
      buffer = i.buffer;
      turn = i.turn;
      number = i.number;
      next = i.next;
      hands0 = i.hands0;
      hands1 = i.hands1;
      hands2 = i.hands2;
      at = due_next u.samples 0 d.at (v.heard / 2) s rest rising left mark;
      upto0 = upto_later d.at v.first.handed i.upto0;
      upto1 = upto_later d.at v.second.handed i.upto1;
      upto2 = upto_later d.at v.third.handed i.upto2;
      in_order = losses_later u d (d.at + 1) (omega arith) i.in_order;
      rise = i.rise;
      last = i.last;
      heard = i.heard;
      placed = omega (arith, i.placed, placed);
      written = omega (arith, i.written, written);
      all = omega (arith, i.all, all);
      exact = exact_same u d (with_taken d e) v v u.pace refl refl i.exact;
      going = i.going;
      answered = i.answered;
    }

-- the table counted a sample
pub kept_counted : (tables : List Sent) (least most : ℕ) (u : Setup) (d : Driver) (v : Side) (t : Table) (s : Marked) (rest : List Marked) → IsRising u.samples → d.table ≡ Some t → needs_room t s.key ≡ false
    → drop d.at u.samples ≡ s ∷ rest → s.mark ≤ v.heard / 2 → Loose tables least most u d v → Loose tables least most u (take_next d s.key (Some t)) v
kept_counted tables least most u d v t s rest rising held room left mark i =
    let k = s.key in
    let is : IsTable v.buckets t = subst (λ (z : Option Table). IfSome z (IsTable v.buckets)) held i.table in
    let some : 0 < length t.rows = omega (arith, is.size, i.buckets) in
    let out : given_out (add t k).added ≡ None = out_none (given_out (add t k).added) room in
    kept_taken tables least most least most u d (take_next d k (Some t)) v s rest rising left mark (ap (λ (z : Option Table). is_some z) held) refl (table_kept v.buckets k t i.buckets is) i.active
    (λ j. omega (arith, ap (λ (z : Option Table). weight j (table_entries z)) held, add_weighs j k t some is.ways, ap (λ (z : Option Counted). out_weight j z) out))
    (omega (arith, tally_placed d.stats (add t k).added, add_grows k t some, ap (λ (z : Option Table). length (table_entries z)) held))
    (omega (arith, tally_written d.stats (add t k).added, ap (λ (z : Option Counted). out_count z) out))
    (tally_all d.stats (Some (add t k).added)) i
