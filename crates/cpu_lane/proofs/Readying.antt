-- A turn stays ready after its looks, and a sample that is due can be counted and written.
use Rattle.std.proofs.Common.{◌≡◌, ℕ, ◌+◌, ◌/◌, ◌<◌, ◌≤◌, List, [], ◌∷◌, ◌++◌, length, drop, refl, sym, ◌∙◌, ap, subst, arith, true, false, Some, None, Option, eqb, ◌&&◌, length-append}
use Rattle.std.specs.Prelude.{is_some, IfSome, IsSomeAnd}
use Rattle.std.proofs.lemmas.Bool.{cond_both, both_ways}
use Rattle.sample_key.specs.Counted.{Counted}
use Rattle.sample_key.specs.Marks.{due}
use Rattle.sample_key.specs.declared.keys.Key.{Key}
use Rattle.driver_model.specs.Table.{Table}
use Rattle.driver_model.specs.Sides.{Side, HasRoomFor, is_even, side_look_buffer}
use Rattle.driver_model.specs.Driver.{Setup, Buffers, Driver, World, Two, activate, other, word_at, look_other, look_both, find_buffer, take_next}
use Rattle.driver_model.specs.Invariant.{table_entries, active_entries, is_active}
use Rattle.driver_laws.proofs.Lists.{next_below}
use Rattle.driver_laws.proofs.Changes.{with_held, with_words}
use Rattle.driver_laws.proofs.Lefts.{look_left}
use Rattle.driver_laws.proofs.Looks.{look_ends}
use Rattle.driver_laws.proofs.Marks.{due_later, due_next}
use Rattle.driver_laws.proofs.Rooms.{less_room}
use Rattle.overflow_pair.specs.Contents.{Contents, HasSpace, pushed, entries_if}
use Rattle.lane_side.specs.Fixed.{Fixed}
use Rattle.cpu_lane.specs.Steps.{Is, looked}
use Rattle.cpu_lane.specs.Ready.{Ready, CanHand, CanCount, IsDue}
use Rattle.cpu_lane.proofs.Handing.{can_hand}

-- A turn stays ready where only the words, the bell and who holds what change, if the entries stay and the holds are those of
-- the driver.
pub ready_holds : (u : Setup) (f : Fixed) (d e : Driver) (v w : Side) → table_entries e.table ≡ table_entries d.table → active_entries e.pair.active ≡ active_entries d.pair.active
    → w.first.holds ≡ is_active e.pair 0 → w.second.holds ≡ is_active e.pair 1 → w.third.holds ≡ is_some e.table
    → IfSome e.table (λ t. length t.rows ≡ v.buckets) → IfSome e.pair.active (λ es. length es < v.buffer) → e.pair.active_number ≤ 1 → v.heard ≤ w.heard
    → Ready u f d v → Ready u f (with_held d e) (with_words v w)
ready_holds u f d e v w same_table same_active holds0 holds1 holds2 table active number heard r =
    let in_table : length (table_entries e.table) ≡ length (table_entries d.table) = ap (λ (es : List Counted). length es) same_table in
    let in_active : length (active_entries e.pair.active) ≡ length (active_entries d.pair.active) = ap (λ (es : List Counted). length es) same_active in
    record {
      setup_is = r.setup_is;
      side_is = record { cpu = r.side_is.cpu; samples = r.side_is.samples; size = r.side_is.size };
      room = less_room 2 2 (length (table_entries d.table) + length (active_entries d.pair.active) + 1) (length (table_entries e.table) + length (active_entries e.pair.active) + 1) v.room (omega arith) (omega arith) r.room;
      holds0 = holds0;
      holds1 = holds1;
      holds2 = holds2;
      table = table;
      active = active;
      buffer = r.buffer;
      number = number;
      next = r.next;
      hands0 = r.hands0;
      hands1 = r.hands1;
      hands2 = r.hands2;
      few0 = r.few0;
      few1 = r.few1;
      few2 = r.few2;
      answered = omega (arith, r.answered);
      at = omega (arith, r.at, due_later u.samples (v.heard / 2) (w.heard / 2) (omega arith));
      held = omega (arith, r.held);
      all = r.all;
    }

-- buffer 0 came back
ready_back0 : (u : Setup) (f : Fixed) (d : Driver) (v : Side) (w : ℕ) → Ready u f d v → d.pair.active ≡ None → is_even w ≡ true
    → Ready u f (activate d 0) (side_look_buffer v 0 w)
ready_back0 u f d v w r none even =
    ready_holds u f d (activate d 0) v (side_look_buffer v 0 w) refl (sym (ap (λ (a : Option (List Counted)). active_entries a) none))
    even (r.holds1 ∙ ap (λ (a : Option (List Counted)). is_some a && eqb d.pair.active_number 1) none) r.holds2 r.table r.buffer (omega arith) (omega arith) r

-- buffer 0 is out
ready_out0 : (u : Setup) (f : Fixed) (d : Driver) (v : Side) (w : ℕ) → Ready u f d v → d.pair.active ≡ None → is_even w ≡ false
    → Ready u f d (side_look_buffer v 0 w)
ready_out0 u f d v w r none odd =
    ready_holds u f d d v (side_look_buffer v 0 w) refl refl (odd ∙ sym (ap (λ (a : Option (List Counted)). is_some a && eqb d.pair.active_number 0) none)) r.holds1 r.holds2 r.table r.active r.number (omega arith) r

-- buffer 1 came back
ready_back1 : (u : Setup) (f : Fixed) (d : Driver) (v : Side) (w : ℕ) → Ready u f d v → d.pair.active ≡ None → is_even w ≡ true
    → Ready u f (activate d 1) (side_look_buffer v 1 w)
ready_back1 u f d v w r none even =
    ready_holds u f d (activate d 1) v (side_look_buffer v 1 w) refl (sym (ap (λ (a : Option (List Counted)). active_entries a) none))
    (r.holds0 ∙ ap (λ (a : Option (List Counted)). is_some a && eqb d.pair.active_number 0) none) even r.holds2 r.table r.buffer (omega arith) (omega arith) r

-- buffer 1 is out
ready_out1 : (u : Setup) (f : Fixed) (d : Driver) (v : Side) (w : ℕ) → Ready u f d v → d.pair.active ≡ None → is_even w ≡ false
    → Ready u f d (side_look_buffer v 1 w)
ready_out1 u f d v w r none odd =
    ready_holds u f d d v (side_look_buffer v 1 w) refl refl r.holds0 (odd ∙ sym (ap (λ (a : Option (List Counted)). is_some a && eqb d.pair.active_number 1) none)) r.holds2 r.table r.active r.number (omega arith) r

-- a buffer was looked for where none was active
pub ready_find : (u : Setup) (f : Fixed) (h : Two) (d : Driver) (v : Side) (a : Option (List Counted)) → Ready u f d v → d.pair.active ≡ a → Ready u f (find_buffer h d v a).driver (find_buffer h d v a).side
ready_find u f h d v (Some es) r active = r
ready_find u f h d v None r active =
    let v0 = side_look_buffer v 0 h.first in let v1 = side_look_buffer v 1 h.second in
    look_ends (λ (y : World). Ready u f y.driver y.side) h d v d.pair.next r.next
    (λ even. ready_back0 u f d v h.first r active even) (λ even. ready_back1 u f d v h.second r active even)
    (λ odd even. ready_back1 u f d v0 h.second (ready_out0 u f d v h.first r active odd) active even)
    (λ odd even. ready_back0 u f d v1 h.first (ready_out1 u f d v h.second r active odd) active even)
    (λ odd0 odd1. ready_out1 u f d v0 h.second (ready_out0 u f d v h.first r active odd0) active odd1)

-- what looks for a buffer leave
pub record Stays (d : Driver) (v : Side) (y : World) : Type 0 where
  pub at : y.driver.at ≡ d.at
  pub table : y.driver.table ≡ d.table
  pub heard : y.side.heard ≡ v.heard

look_stays : (d : Driver) (v : Side) (b w : ℕ) → Stays d v (looked d v b w)
look_stays d v b w =
    let heard : (side_look_buffer v b w).heard ≡ v.heard = (look_left v b w).heard in
    cond_both (is_even w) (activate d b) d (λ (e : Driver). Stays d v (record { driver = e; side = side_look_buffer v b w }))
    (λ even. record { at = refl; table = refl; heard = heard }) (λ odd. record { at = refl; table = refl; heard = heard })

pub find_stays : (h : Two) (d : Driver) (v : Side) (a : Option (List Counted)) → Stays d v (find_buffer h d v a)
find_stays h d v (Some es) = record { at = refl; table = refl; heard = refl }
find_stays h d v None =
    let b = d.pair.next in let x = side_look_buffer v b (word_at h b) in
    let heard : x.heard ≡ v.heard = (look_left v b (word_at h b)).heard in
    cond_both (is_even (word_at h b)) (record { driver = activate d b; side = x }) (look_other h d x (other b)) (Stays d v)
    (λ even. record { at = refl; table = refl; heard = heard })
    (λ odd. let s = look_stays d x (other b) (word_at h (other b)) in record { at = s.at; table = s.table; heard = s.heard ∙ heard })

-- where a buffer was found, or both are out, the driver is that of the definition
pub found_ready : (u : Setup) (f g : Fixed) (h : Two) (d : Driver) (v : Side) (e : Driver) (w : Side) → Ready u f d v → d.pair.active ≡ None → Is (look_both h d v d.pair.next) e w → g ≡ f → Ready u g e w
found_ready u f g h d v e w r none is same =
    let y = look_both h d v d.pair.next in
    subst (λ (k : Fixed). Ready u k e w) (sym same)
    (subst (λ (z : Driver). Ready u f z w) (sym is.0) (subst (λ (z : Side). Ready u f y.driver z) (sym is.1) (ready_find u f h d v None r none)))

-- what was found leaves the samples, the table and the bell
pub found_stays : (h : Two) (d : Driver) (v : Side) (e : Driver) (w : Side) → Is (look_both h d v d.pair.next) e w → (e.at ≡ d.at) × (e.table ≡ d.table) × (w.heard ≡ v.heard)
found_stays h d v e w is =
    let s = find_stays h d v None in
    (ap (λ (z : Driver). z.at) is.0 ∙ s.at, ap (λ (z : Driver). z.table) is.0 ∙ s.table, ap (λ (z : Side). z.heard) is.1 ∙ s.heard)

-- the next sample is still due
pub still_due : (u : Setup) (d e : Driver) (v w : Side) (k : Key) → e.at ≡ d.at → w.heard ≡ v.heard → IsDue u d v k → IsDue u e w k
still_due u d e v w k at heard n =
    (n.0, n.1, subst (λ (m : ℕ). drop m u.samples ≡ n.0 ∷ n.1) (sym at) n.2, n.3, subst (λ (m : ℕ). n.0.mark ≤ m / 2) (sym heard) n.4)

-- one sample more can be counted, and is left
pub can_count : (u : Setup) (f : Fixed) (d : Driver) (v : Side) (k : Key) → Ready u f d v → IsDue u d v k → CanCount d × (d.at < length u.samples)
can_count u f d v k r n =
    let left : d.at < length u.samples = next_below d.at u.samples n.0 n.1 n.2 in
    (record { at = omega (arith, left, r.setup_is.few); all = r.all }, left)

-- the same after what was found
pub found_counts : (u : Setup) (f g : Fixed) (h : Two) (d : Driver) (v : Side) (e : Driver) (w : Side) (k : Key) → Ready u f d v → d.pair.active ≡ None → Is (look_both h d v d.pair.next) e w → g ≡ f
    → IsDue u d v k → CanCount e × (e.at < length u.samples)
found_counts u f g h d v e w k r none is same due_now =
    let s = found_stays h d v e w is in
    can_count u g e w k (found_ready u f g h d v e w r none is same) (still_due u d e v w k s.0 s.2 due_now)

-- a sample more was taken
taken : (d : Driver) (k : Key) (o : Option Table) → ((take_next d k o).at ≡ d.at + 1) × ((take_next d k o).pair ≡ d.pair)
taken d k None = (refl, refl)
taken d k (Some t) = (refl, refl)

-- what a hand asks of the buffers
abbrev HandsFrom : Side → ℕ → Buffers → Type 0
HandsFrom v at p = (p.active_number ≤ 1) × (v.first.holds ≡ eqb p.active_number 0) × (v.second.holds ≡ eqb p.active_number 1)
    × (p.hands0 ≡ length v.first.handed) × (p.hands1 ≡ length v.second.handed) × (p.hands0 ≤ at) × (p.hands1 ≤ at)

-- the buffer with what the sample needs written can be handed
pub can_push : (u : Setup) (f : Fixed) (d e : Driver) (v : Side) (b : Contents) (x : Counted) (k : Key) (o : Option Table) → Ready u f d v → d.pair.active ≡ Some b.entries → IsDue u d v k
    → e ≡ take_next d k o → b.size ≡ u.size → CanHand u f e v (pushed b x)
can_push u f d e v b x k o r active n is size =
    let t = taken d k o in
    let at : e.at ≡ d.at + 1 = ap (λ (z : Driver). z.at) is ∙ t.0 in
    let pair : e.pair ≡ d.pair = ap (λ (z : Driver). z.pair) is ∙ t.1 in
    let more : length (b.entries ++ x ∷ []) ≡ length b.entries + 1 = length-append b.entries (x ∷ []) in
    let count : length (active_entries d.pair.active) ≡ length b.entries = ap (λ (a : Option (List Counted)). length (active_entries a)) active in
    let holds : (m : ℕ) → is_active d.pair m ≡ eqb d.pair.active_number m = λ m. ap (λ (a : Option (List Counted)). is_some a && eqb d.pair.active_number m) active in
    let up : d.at + 1 ≤ due u.samples (v.heard / 2) = due_next u.samples 0 d.at (v.heard / 2) n.0 n.1 r.setup_is.rising n.2 n.4 in
    let room : HasRoomFor 1 (length (b.entries ++ x ∷ [])) v.room =
    less_room 2 1 (length (table_entries d.table) + length (active_entries d.pair.active) + 1) (length (b.entries ++ x ∷ [])) v.room (omega arith) (omega (arith, more, count)) r.room in
    let h : HandsFrom v e.at e.pair = subst (λ (p : Buffers). HandsFrom v e.at p) (sym pair)
    (r.number, r.holds0 ∙ holds 0, r.holds1 ∙ holds 1, r.hands0, r.hands1, omega (arith, r.few0, at), omega (arith, r.few1, at)) in
    can_hand u f e v (pushed b x) r.setup_is r.side_is h.0 h.1 h.2 h.3 h.4 h.5 h.6 (omega (arith, up, at)) (omega (arith, r.held, more, count, at)) room size

-- the active buffer, which has the made size, has space for an entry
pub has_space : (u : Setup) (f : Fixed) (d : Driver) (v : Side) (o : Option Contents) → Ready u f d v → d.pair.active ≡ entries_if o → is_some o ≡ true → IfSome o (λ b. b.size ≡ u.size)
    → IsSomeAnd o HasSpace
has_space u f d v None r active some size = absurd (both_ways false refl some)
has_space u f d v (Some b) r active some size =
    let few : length b.entries < v.buffer = subst (λ (a : Option (List Counted)). IfSome a (λ es. length es < v.buffer)) active r.active in
    omega (arith, few, size, r.side_is.size)

-- of a known buffer
pub size_of : (o : Option Contents) (b : Contents) (size : ℕ) → o ≡ Some b → IfSome o (λ c. c.size ≡ size) → b.size ≡ size
size_of o b size is h = subst (λ (p : Option Contents). IfSome p (λ c. c.size ≡ size)) is h

-- the active buffer, where there is one
pub known : (o : Option Contents) → is_some o ≡ true → (b : Contents) × (o ≡ Some b)
known None some = absurd (both_ways false refl some)
known (Some b) some = (b, refl)
