use Rattle.std.proofs.Common.{◌≡◌, ℕ, ◌+◌, ◌/◌, ◌<◌, ◌≤◌, List, [], ◌∷◌, ◌++◌, length, drop, refl, ◌∙◌, ap, subst, arith, Bool, true, false, cond, Some, None, Option, eqb, ◌&&◌, length-append}
use Rattle.std.specs.Prelude.{is_some, IfSome, ◌-◌}
use Rattle.std.proofs.lemmas.Bool.{cond_both, eqb-true}
use Rattle.sample_key.specs.Bags.{weight, counted, batched, batched_upto}
use Rattle.sample_key.specs.Counted.{Counted, entry}
use Rattle.sample_key.specs.Marks.{IsRising}
use Rattle.sample_key.specs.Sent.{Sent}
use Rattle.sample_key.specs.declared.keys.Key.{Key}
use Rattle.sample_key.specs.declared.keys.Marked.{Marked}
use Rattle.driver_model.specs.Lists.{AllOf}
use Rattle.driver_model.specs.Table.{Table, IsTable, add, given_out}
use Rattle.driver_model.specs.Sides.{Side, room_after}
use Rattle.driver_model.specs.Driver.{Setup, Driver, World, take_next, entry_to_write, needs_write, pair_handed, hands_of, buffer_batch, hand_buffer}
use Rattle.driver_model.specs.Invariant.{IsConserved, IsWholeFlush, InOrder, FullOrCut, WasOut, is_active, entries_of, table_entries, active_entries}
use Rattle.driver_laws.proofs.Lists.{each_push, each_map, all_push, all_map, all_both, all_any, by_number}
use Rattle.driver_laws.proofs.Weights.{weight-append, batched-push, upto_push}
use Rattle.driver_laws.proofs.Adds.{out_weight, add_weighs, add_grows}
use Rattle.driver_laws.proofs.Tables.{table_kept}
use Rattle.driver_laws.proofs.Loose.{Loose}
use Rattle.driver_laws.proofs.Parts.{losses_before, exact_same, bounded_from, out_count, entries-push, tally_all, tally_placed, tally_written, out_some, handed_if, if_handed, sum_handed, hands_handed, flush_hand, out_hand}
use Rattle.driver_laws.proofs.Changes.{kept_taken}

-- what a turn writes: an entry is pushed to the active buffer, which is handed when it is full

-- what a sample needs written is pushed: the entry that the table gave out, or the sample itself where the table is out
pub kept_pushed : (tables : List Sent) (least most : ℕ) (u : Setup) (d : Driver) (v : Side) (es : List Counted) (s : Marked) (rest : List Marked) (o : Option Table)
    → IsRising u.samples → d.table ≡ o → needs_write s.key o ≡ true → d.pair.active ≡ Some es → length es < v.buffer → drop d.at u.samples ≡ s ∷ rest → s.mark ≤ v.heard / 2
    → Loose tables least most u d v
    → Loose tables 1 (v.buffer + 1) u (record (take_next d s.key o) { pair = record (take_next d s.key o).pair { active = Some (es ++ entry_to_write s.key o ∷ []) } }) v
kept_pushed tables least most u d v es s rest (Some t) rising held needs active few left mark i =
    let k = s.key in let x : Counted = entry_to_write k (Some t) in
    let is : IsTable v.buckets t = subst (λ (z : Option Table). IfSome z (IsTable v.buckets)) held i.table in
    let some : 0 < length t.rows = omega (arith, is.size, i.buckets) in
    let given : (j : Key) → (out_weight j (given_out (add t k).added) ≡ counted j x) × (out_count (given_out (add t k).added) ≡ 1) = λ j. out_some (given_out (add t k).added) (entry k 1) j needs in
    let longer = length-append es (x ∷ []) in
    kept_taken tables least most 1 (v.buffer + 1) u d (record (take_next d k (Some t)) { pair = record d.pair { active = Some (es ++ x ∷ []) } }) v s rest rising left mark
    (ap (λ (z : Option Table). is_some z) held) (ap (λ (z : Option (List Counted)). is_some z) active) (table_kept v.buckets k t i.buckets is) (omega arith, omega arith)
    (λ j. omega (arith, ap (λ (z : Option Table). weight j (table_entries z)) held, add_weighs j k t some is.ways, (given j).0, ap (λ (z : Option (List Counted)). weight j (active_entries z)) active, weight-append j es (x ∷ [])))
    (omega (arith, tally_placed d.stats (add t k).added, add_grows k t some, ap (λ (z : Option Table). length (table_entries z)) held))
    (omega (arith, tally_written d.stats (add t k).added, (given k).1, ap (λ (z : Option (List Counted)). length (active_entries z)) active))
    (tally_all d.stats (Some (add t k).added)) i
kept_pushed tables least most u d v es s rest None rising held needs active few left mark i =
    let x : Counted = entry_to_write s.key None in
    let longer = length-append es (x ∷ []) in
    kept_taken tables least most 1 (v.buffer + 1) u d (record (take_next d s.key None) { pair = record d.pair { active = Some (es ++ x ∷ []) } }) v s rest rising left mark
    refl (ap (λ (z : Option (List Counted)). is_some z) active) i.table (omega arith, omega arith)
    (λ j. omega (arith, ap (λ (z : Option (List Counted)). weight j (active_entries z)) active, weight-append j es (x ∷ [])))
    refl (omega (arith, ap (λ (z : Option (List Counted)). length (active_entries z)) active)) (tally_all d.stats None) i

-- the driver and its side after the active buffer, of this number, was handed, with both cells written out
abbrev handed_on : Driver → Side → ℕ → Sent → World
handed_on d v n x = record {
  driver = record d {
    pair = record d.pair {
      active = None;
      next = 1 - n;
      hands0 = cond (eqb n 0) (d.pair.hands0 + 1) d.pair.hands0;
      hands1 = cond (eqb n 1) (d.pair.hands1 + 1) d.pair.hands1;
    };
  };
  side = record v {
    steps = v.steps + 1;
    first = record v.first { handed = handed_if (eqb n 0) v.first.handed x; holds = cond (eqb n 0) false v.first.holds };
    second = record v.second { handed = handed_if (eqb n 1) v.second.handed x; holds = cond (eqb n 1) false v.second.holds };
    room = room_after v.room x;
  };
}

-- the active buffer is handed
pub kept_hand : (tables new : List Sent) (least most : ℕ) (u : Setup) (d : Driver) (v : Side) (es : List Counted)
    → ((cell : ℕ) (c : Sent) → FullOrCut cell u.size tables c → FullOrCut cell u.size new c)
    → d.pair.active ≡ Some es → FullOrCut d.pair.active_number u.size new (buffer_batch u d.at d.pair.active_number (pair_handed d.pair d.pair.active_number) es)
    → Loose tables least most u d v → Loose new 1 v.buffer u (hand_buffer u d v d.pair.active_number es).driver (hand_buffer u d v d.pair.active_number es).side
kept_hand tables new least most u d v es more active sized i =
    let n : ℕ = d.pair.active_number in
    let x : Sent = buffer_batch u d.at n (pair_handed d.pair n) es in
    let w : World = handed_on d v n x in
    let first : List Sent = v.first.handed in let second : List Sent = v.second.handed in
    let both = sum_handed n i.number first second x in
    let conserved : IsConserved u w.driver w.side =
    λ k. omega (arith, i.conserved k, ap (λ (z : Option (List Counted)). weight k (active_entries z)) active, both (λ bs. batched k bs) (weight k es) (λ bs. batched-push k bs x)) in
    let order : (m : ℕ) (bs : List Sent) → hands_of (pair_handed d.pair m) m ≡ length bs + 1 → AllOf (λ b. b.note.upto ≤ d.at) bs → InOrder bs → InOrder (handed_if (eqb n m) bs x) =
    λ m bs hands upto h. if_handed InOrder (eqb n m) bs x h
    (λ e. each_push (λ done c. (c.note.number ≡ length done + 1) × AllOf (λ a. a.note.upto ≤ c.note.upto) done) [] bs x h (ap (λ (j : ℕ). hands_of (pair_handed d.pair j) j) (eqb-true n m e) ∙ hands, upto)) in
    let sizes : (m : ℕ) (bs : List Sent) → AllOf (FullOrCut m u.size tables) bs → AllOf (FullOrCut m u.size new) (handed_if (eqb n m) bs x) =
    λ m bs h. let old : AllOf (FullOrCut m u.size new) bs = all_map (FullOrCut m u.size tables) (FullOrCut m u.size new) (more m) bs h in
    if_handed (AllOf (FullOrCut m u.size new)) (eqb n m) bs x old (λ e. all_push (FullOrCut m u.size new) bs x old (subst (λ (j : ℕ). FullOrCut j u.size new x) (eqb-true n m e) sized)) in
    let holds : (m : ℕ) (h : Bool) → h ≡ is_active d.pair m → cond (eqb n m) false h ≡ false =
    λ m h is. cond_both (eqb n m) false h (λ (z : Bool). z ≡ false) (λ e. refl) (λ e. is ∙ ap (λ (z : Option (List Counted)). is_some z && eqb n m) active ∙ e) in
    let upto : (m : ℕ) (bs : List Sent) → AllOf (λ b. b.note.upto ≤ d.at) bs → AllOf (λ b. b.note.upto ≤ d.at) (handed_if (eqb n m) bs x) =
    λ m bs h. if_handed (AllOf (λ b. b.note.upto ≤ d.at)) (eqb n m) bs x h (λ e. all_push (λ b. b.note.upto ≤ d.at) bs x h (omega arith)) in
    subst (λ (z : World). Loose new 1 v.buffer u z.driver z.side)
    (by_number (λ (m : ℕ). handed_on d v m (buffer_batch u d.at m (pair_handed d.pair m) es) ≡ hand_buffer u d v m es) n i.number refl refl)
    (record {
      conserved = conserved;
      flushes = each_map (IsWholeFlush u.samples first second d.losses) (IsWholeFlush u.samples w.side.first.handed w.side.second.handed d.losses) (λ c. Unit {0})
          (λ done c r h. flush_hand u.samples first second (eqb n 0) (eqb n 1) d.losses x done c h) [] v.third.handed (all_any (λ (c : Sent). Unit {0}) (λ c. tt) v.third.handed) i.flushes;
      bounded = bounded_from u w.driver w.side conserved (λ m k l. omega (arith, i.bounded m k (omega arith), both (λ bs. batched_upto k m bs) 0 (λ bs. omega (arith, upto_push k m bs x l))));
      order0 = order 0 first (omega (arith, i.hands0)) i.upto0 i.order0;
      order1 = order 1 second (omega (arith, i.hands1)) i.upto1 i.order1;
      order2 = i.order2;
      sizes0 = sizes 0 first i.sizes0;
      sizes1 = sizes 1 second i.sizes1;
      fits = i.fits;
      explained = all_both (λ l. l.index < d.at) (λ l. WasOut first l.index l.word0 × WasOut second l.index l.word1) (λ l. WasOut w.side.first.handed l.index l.word0 × WasOut w.side.second.handed l.index l.word1)
          (λ l g h. (out_hand (eqb n 0) first x l.index l.word0 g h.0, out_hand (eqb n 1) second x l.index l.word1 g h.1)) d.losses (losses_before u d i.in_order) i.explained;
      holds0 = holds 0 v.first.holds i.holds0;
      holds1 = holds 1 v.second.holds i.holds1;
      holds2 = i.holds2;
      table = i.table;
      active = tt;
      buckets = i.buckets;
      buffer = i.buffer;
      turn = i.turn;
      number = i.number;
      next = omega arith;
      hands0 = hands_handed (eqb n 0) d.pair.hands0 first x i.hands0;
      hands1 = hands_handed (eqb n 1) d.pair.hands1 second x i.hands1;
      hands2 = i.hands2;
      at = i.at;
      upto0 = upto 0 first i.upto0;
      upto1 = upto 1 second i.upto1;
      upto2 = i.upto2;
      in_order = i.in_order;
      rise = i.rise;
      last = i.last;
      heard = i.heard;
      placed = i.placed;
      written = omega (arith, i.written, both entries_of (length es) (λ bs. entries-push bs x), ap (λ (z : Option (List Counted)). length (active_entries z)) active);
      all = i.all;
      exact = exact_same u d w.driver v w.side u.pace refl refl i.exact;
      going = i.going;
      answered = i.answered;
    })
