use Rattle.std.proofs.Common.{◌≡◌, ℕ, ◌+◌, ◌*◌, ◌/◌, ◌%◌, ◌<◌, ◌≤◌, List, [], ◌∷◌, ◌++◌, length, drop, refl, sym, ap, subst, arith, Bool, true, not, Some, None, Option, leb, eqb, ◌||◌, length-append, leb-true, eqb-true, eq-eqb}
use Rattle.std.specs.Prelude.{IfSome, IsSomeAnd, slice_get}
use Rattle.std.proofs.lemmas.List.{take_all}
use Rattle.sample_key.specs.Bags.{weight, once_at}
use Rattle.sample_key.specs.Counted.{Counted}
use Rattle.sample_key.specs.Marks.{due, IsRising}
use Rattle.sample_key.specs.Sent.{Sent}
use Rattle.sample_key.specs.declared.keys.Marked.{Marked}
use Rattle.sample_key.specs.declared.losses.Loss.{Loss}
use Rattle.sample_key.specs.declared.losses.Pace.{Pace}
use Rattle.sample_key.specs.declared.losses.Pace.TheVariants.{Free, Exact}
use Rattle.driver_model.specs.Lists.{AllOf}
use Rattle.driver_model.specs.Table.{Table, IsTable, FitsTable, entries_in}
use Rattle.driver_model.specs.Sides.{Side}
use Rattle.driver_model.specs.Driver.{Setup, Driver, table_header, hand_table, loss_of, lose, may_answer}
use Rattle.driver_model.specs.Invariant.{IsSetup, IsConserved, IsWholeFlush, WasOut, last_answer, IsExact, table_entries, active_entries, DriverInvariant, IsAtEnd}
use Rattle.driver_laws.proofs.Lists.{each_push, each_map, all_push, all_map, next_at}
use Rattle.driver_laws.proofs.Weights.{batched-push, upto_push, lost-push, below_push, below_all, times_next}
use Rattle.driver_laws.proofs.Tables.{table_fits}
use Rattle.driver_laws.proofs.Marks.{due_most, due_all, due_next, due_within}
use Rattle.driver_laws.proofs.Loose.{Loose}
use Rattle.driver_laws.proofs.Parts.{losses_before, upto_later, bounded_from, entries-push, last_answer-push, Rises, answers_most, flush_lost, out_now}
use Rattle.driver_laws.proofs.Changes.{losses_later}

-- what ends a turn besides: the sample is lost, or a flush is answered

-- the sample is lost
pub kept_lost : (tables : List Sent) (least most : ℕ) (u : Setup) (d : Driver) (v : Side) (s : Marked) (rest : List Marked) → IsRising u.samples → u.pace ≡ Free → drop d.at u.samples ≡ s ∷ rest → s.mark ≤ v.heard / 2
    → v.first.read % 2 ≡ 1 → v.first.read + 1 ≡ 2 * length v.first.handed → v.second.read % 2 ≡ 1 → v.second.read + 1 ≡ 2 * length v.second.handed
    → Loose tables least most u d v → Loose tables least most u (lose (record { driver = d; side = v }) s.key).driver v
kept_lost tables least most u d v s rest rising free left mark odd0 fair0 odd1 fair1 i =
    let l : Loss = loss_of (record { driver = d; side = v }) s.key in
    let there : slice_get u.samples d.at ≡ Some s = next_at d.at u.samples s rest left in
    let conserved : IsConserved u (lose (record { driver = d; side = v }) s.key).driver v =
    λ k. omega (arith, i.conserved k, lost-push k u.samples d.losses l, ap (λ (z : Option Marked). once_at k z) there, times_next k d.at u.samples s rest left) in
    record {
      conserved = conserved;
      flushes = each_map (IsWholeFlush u.samples v.first.handed v.second.handed d.losses) (IsWholeFlush u.samples v.first.handed v.second.handed (d.losses ++ l ∷ [])) (λ b. b.note.upto ≤ d.at) (λ done b r h. flush_lost u.samples v.first.handed v.second.handed d.losses l done b r h) [] v.third.handed i.upto2 i.flushes;
      bounded = bounded_from u (lose (record { driver = d; side = v }) s.key).driver v conserved (λ n k h. omega (arith, i.bounded n k (omega arith), below_push k n u.samples d.losses l (omega arith)));
      order0 = i.order0;
      order1 = i.order1;
      order2 = i.order2;
      sizes0 = i.sizes0;
      sizes1 = i.sizes1;
      fits = i.fits;
      explained = all_push (λ m. WasOut v.first.handed m.index m.word0 × WasOut v.second.handed m.index m.word1) d.losses l i.explained (out_now v.first.handed d.at v.first.read odd0 fair0 i.order0 i.upto0, out_now v.second.handed d.at v.second.read odd1 fair1 i.order1 i.upto1);
      holds0 = i.holds0;
      holds1 = i.holds1;
      holds2 = i.holds2;
      table = i.table;
      active = i.active;
      buckets = i.buckets;
      buffer = i.buffer;
      turn = i.turn;
      number = i.number;
      next = i.next;
      hands0 = i.hands0;
      hands1 = i.hands1;
      hands2 = i.hands2;
      at = due_next u.samples 0 d.at (v.heard / 2) s rest rising left mark;
      upto0 = upto_later d.at v.first.handed i.upto0;
      upto1 = upto_later d.at v.second.handed i.upto1;
      upto2 = upto_later d.at v.third.handed i.upto2;
      in_order = each_push (λ done m. (m.index < d.at + 1) × AllOf (λ o. o.index < m.index) done × IsSomeAnd (slice_get u.samples m.index) (λ c. m.event ≡ c.key.event)) [] d.losses l
          (losses_later u d (d.at + 1) (omega arith) i.in_order) (
            omega arith,
            losses_before u d i.in_order,
            subst (λ (z : Option Marked). IsSomeAnd z (λ c. s.key.event ≡ c.key.event)) (sym there) refl,
          );
      rise = i.rise;
      last = i.last;
      heard = i.heard;
      placed = i.placed;
      written = i.written;
      all = omega (arith, i.all, length-append d.losses (l ∷ []));
      exact = subst (λ (p : Pace). IsExact u (lose (record { driver = d; side = v }) s.key).driver v p) (sym free) tt;
      going = i.going;
      answered = i.answered;
    }

-- what the driver took by the close, where it may answer it
took_all : (u : Setup) (d : Driver) (w : ℕ) (p : Pace) → IsSetup u → d.at ≤ length u.samples → may_answer u d w p ≡ true → w ≡ u.last → d.at ≡ length u.samples
took_all u d w Free h most may e =
    let n : eqb w u.last ≡ true = eq-eqb w u.last e in
    let m : (not true || leb (length u.samples) d.at) ≡ true = subst (λ (b : Bool). (not b || leb (length u.samples) d.at) ≡ true) n may in
    omega (arith, leb-true (length u.samples) d.at m)
took_all u d w Exact h most may e =
    let none : due (drop d.at u.samples) (w / 2) ≡ 0 = eqb-true (due (drop d.at u.samples) (w / 2)) 0 may in
    omega (arith, due_within u.samples d.at (w / 2) none, due_all u.samples (u.last / 2) h.due, ap (λ (n : ℕ). due u.samples (n / 2)) e)

-- at the exact pace an answer goes up to just the samples that were due
answer_exact : (u : Setup) (d : Driver) (v : Side) (w : ℕ) (t : Table) (p : Pace) → d.at ≤ due u.samples (w / 2) → may_answer u d w p ≡ true → IsExact u d v p
    → IsExact u (hand_table u d v w t).driver (hand_table u d v w t).side p
answer_exact u d v w t Free at may h = tt
answer_exact u d v w t Exact at may h =
    let none : due (drop d.at u.samples) (w / 2) ≡ 0 = eqb-true (due (drop d.at u.samples) (w / 2)) 0 may in
    (h.0, all_push (λ b. b.note.upto ≡ due u.samples (b.note.answers / 2)) v.third.handed (record { note = table_header u d w; entries = entries_in t }) h.1 (omega (arith, due_within u.samples d.at (w / 2) none)))

-- the table is handed, and nothing is held any more
pub closed_by : (most : ℕ) (u : Setup) (d : Driver) (v : Side) (w : ℕ) (t : Table) → IsSetup u → d.pair.active ≡ None → d.table ≡ Some t → w ≡ v.heard
    → w % 2 ≡ 1 → d.answered < w → may_answer u d w u.pace ≡ true
    → Loose (v.third.handed ++ (record { note = table_header u d w; entries = entries_in t }) ∷ []) 1 most u d v
    → DriverInvariant u (hand_table u d v w t).driver (hand_table u d v w t).side
closed_by most u d v w t setup active held here odd above may i =
    let x : Sent = (record { note = table_header u d w; entries = entries_in t }) in
    let is : IsTable v.buckets t = subst (λ (z : Option Table). IfSome z (IsTable v.buckets)) held i.table in
    let at : d.at ≤ due u.samples (w / 2) = subst (λ (n : ℕ). d.at ≤ due u.samples (n / 2)) (sym here) i.at in
    let most_at : d.at ≤ length u.samples = omega (arith, i.at, due_most u.samples (v.heard / 2)) in
    let before : AllOf (λ l. l.index < d.at) d.losses = losses_before u d i.in_order in
    let conserved : IsConserved u (hand_table u d v w t).driver (hand_table u d v w t).side =
    λ k. omega (arith, i.conserved k, ap (λ (z : Option Table). weight k (table_entries z)) held, batched-push k v.third.handed x) in
    let whole : IsWholeFlush u.samples v.first.handed v.second.handed d.losses v.third.handed x = record {
      sent0 = omega (arith, i.hands0);
      sent1 = omega (arith, i.hands1);
      upto = most_at;
      whole = λ k. rw (take_all d.pair.hands0 v.first.handed (omega (arith, i.hands0)), take_all d.pair.hands1 v.second.handed (omega (arith, i.hands1)), below_all k d.at u.samples d.losses before)
          (omega (arith, i.conserved k, ap (λ (z : Option Table). weight k (table_entries z)) held, ap (λ (z : Option (List Counted)). weight k (active_entries z)) active));
    } in
    let end : (hand_table u d v w t).driver.done ≡ true → IsAtEnd u (hand_table u d v w t).driver (hand_table u d v w t).side =
    λ e. record {
      at = took_all u d w u.pace setup most_at may (eqb-true w u.last e);
      table = refl;
      active = active;
      last = (v.third.handed, x, refl, refl, refl);
    } in
    record {
      conserved = conserved;
      flushes = each_push (IsWholeFlush u.samples v.first.handed v.second.handed d.losses) [] v.third.handed x i.flushes whole;
      bounded = bounded_from u (hand_table u d v w t).driver (hand_table u d v w t).side conserved (λ n k l. omega (arith, i.bounded n k (omega arith), upto_push k n v.third.handed x l));
      well_formed = record {
        order0 = i.order0;
        order1 = i.order1;
        order2 = each_push (λ done c. (c.note.number ≡ length done + 1) × AllOf (λ a. a.note.upto ≤ c.note.upto) done) [] v.third.handed x i.order2 (omega (arith, i.hands2), i.upto2);
        sizes0 = i.sizes0;
        sizes1 = i.sizes1;
        tables = all_push (λ b. FitsTable v.buckets b.entries) v.third.handed x i.fits (table_fits v.buckets t is);
        losses = i.explained;
      };
      in_step = record {
        holds0 = i.holds0;
        holds1 = i.holds1;
        holds2 = refl;
        table = tt;
        active = subst (λ (z : Option (List Counted)). IfSome z (λ es. (1 ≤ length es) × (length es < v.buffer))) (sym active) tt;
        buckets = i.buckets;
        buffer = i.buffer;
        turn = is.ways;
        number = i.number;
        next = i.next;
        hands0 = i.hands0;
        hands1 = i.hands1;
        hands2 = omega (arith, i.hands2, length-append v.third.handed (x ∷ []));
      };
      in_range = record {
        at = i.at;
        upto0 = i.upto0;
        upto1 = i.upto1;
        upto2 = all_push (λ b. b.note.upto ≤ d.at) v.third.handed x i.upto2 (omega arith);
      };
      losses_in_order = i.in_order;
      answers_rise = record {
        rise = each_push Rises [] v.third.handed x i.rise
            (odd, all_map (λ a. a.note.answers ≤ last_answer 0 v.third.handed) (λ a. a.note.answers < w) (λ a h. omega (arith, i.last)) v.third.handed (answers_most v.third.handed 0 [] i.rise));
        last = last_answer-push 0 v.third.handed x;
        heard = omega arith;
      };
      counted = record {
        placed = omega (arith, i.placed, ap (λ (z : Option Table). length (table_entries z)) held, entries-push v.third.handed x);
        written = i.written;
        all = i.all;
      };
      exact = answer_exact u d v w t u.pace at may i.exact;
      closed = record { done = refl; end = end };
    }
