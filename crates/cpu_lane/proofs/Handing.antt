-- A hand can be made: what it asks follows from what a turn knows.
use Rattle.std.proofs.Common.{◌≡◌, ℕ, ◌+◌, ◌/◌, ◌^◌, ◌<◌, ◌≤◌, List, length, refl, sym, ◌∙◌, ap, subst, arith, true, Some, None, Option, eqb}
use Rattle.std.specs.Prelude.{is_some, IfSome, IsSomeAnd}
use Rattle.sample_key.specs.Counted.{Counted}
use Rattle.sample_key.specs.Marks.{due}
use Rattle.sample_key.specs.Sent.{Sent}
use Rattle.sample_key.specs.declared.keys.Marked.{Marked}
use Rattle.driver_model.specs.Table.{Table, entries_in}
use Rattle.driver_model.specs.Sides.{Room, Slot, Side, HasRoomFor, slot_of, room_after}
use Rattle.driver_model.specs.Driver.{Setup, Driver, pair_handed, buffer_header, hand_active}
use Rattle.driver_model.specs.Invariant.{IsSetup, table_entries, active_entries}
use Rattle.driver_laws.proofs.Lists.{by_number}
use Rattle.driver_laws.proofs.Looks.{by_hand}
use Rattle.driver_laws.proofs.Marks.{due_most}
use Rattle.driver_laws.proofs.Rooms.{less_room}
use Rattle.overflow_pair.specs.Contents.{Contents, HasSpace, entries_if}
use Rattle.overflow_pair.specs.Pairs.{buffers_of}
use Rattle.overflow_pair.specs.declared.pairs.Pair.{Pair}
use Rattle.lane_side.specs.Fixed.{Fixed}
use Rattle.cpu_lane.specs.Steps.{Is}
use Rattle.cpu_lane.specs.Ready.{IsSideOf, Ready, CanHand, CanHandTable}

-- the active buffer's cell says that it is held
held_slot : (v : Side) (n : ℕ) → n ≤ 1 → v.first.holds ≡ eqb n 0 → v.second.holds ≡ eqb n 1 → (slot_of v n).holds ≡ true
held_slot v n l = by_number (λ (m : ℕ). v.first.holds ≡ eqb m 0 → v.second.holds ≡ eqb m 1 → (slot_of v m).holds ≡ true) n l (λ a b. a) (λ a b. b)

-- it was handed less than so often
few_handed : (v : Side) (n most : ℕ) → n ≤ 1 → length v.first.handed < most → length v.second.handed < most → length (slot_of v n).handed < most
few_handed v n most l = by_number (λ (m : ℕ). length v.first.handed < most → length v.second.handed < most → length (slot_of v m).handed < most) n l (λ a b. a) (λ a b. b)

-- a buffer of the made size can be handed
pub can_hand : (u : Setup) (f : Fixed) (d : Driver) (v : Side) (b : Contents) → IsSetup u → IsSideOf u f v → d.pair.active_number ≤ 1
    → v.first.holds ≡ eqb d.pair.active_number 0 → v.second.holds ≡ eqb d.pair.active_number 1
    → d.pair.hands0 ≡ length v.first.handed → d.pair.hands1 ≡ length v.second.handed → d.pair.hands0 ≤ d.at → d.pair.hands1 ≤ d.at
    → d.at ≤ due u.samples (v.heard / 2) → length b.entries ≤ d.at → HasRoomFor 1 (length b.entries) v.room → b.size ≡ u.size → CanHand u f d v b
can_hand u f d v b setup side number holds0 holds1 hands0 hands1 few0 few1 at held room size =
    let most : d.at ≤ 2000000 = omega (arith, at, due_most u.samples (v.heard / 2), setup.few) in
    record {
      number = number;
      few0 = omega (arith, few0, most);
      few1 = omega (arith, few1, most);
      cpu = setup.cpu;
      at = most;
      may = record {
        hand = record {
          holds = held_slot v d.pair.active_number number holds0 holds1;
          times = few_handed v d.pair.active_number (2 ^ 62) number (omega (arith, few0, most, hands0)) (omega (arith, few1, most, hands1));
          cpu = sym side.cpu;
          cell = refl;
          entries = held;
          upto = subst (λ (ss : List Marked). d.at ≤ due ss (v.heard / 2)) (sym side.samples) at;
          room = room;
        };
        answers = refl;
        size = size ∙ side.size;
      };
    }

-- before a flush is answered, the active buffer can be handed; whatever became of the table
pub can_active : (u : Setup) (f : Fixed) (d : Driver) (v : Side) (o : Option Contents) (t : Option Table) → Ready u f d v → d.pair.active ≡ entries_if o
    → IfSome o (λ b. b.size ≡ u.size) → IfSome o (CanHand u f (record d { table = t }) v)
can_active u f d v None t r active size = tt
can_active u f d v (Some b) t r active size =
    let has : is_some d.pair.active ≡ true = ap (λ (a : Option (List Counted)). is_some a) active in
    let count : length (active_entries d.pair.active) ≡ length b.entries = ap (λ (a : Option (List Counted)). length (active_entries a)) active in
    can_hand u f (record d { table = t }) v b r.setup_is r.side_is r.number (rw has at r.holds0) (rw has at r.holds1) r.hands0 r.hands1 r.few0 r.few1 r.at (omega (arith, r.held, count))
    (less_room 2 1 (length (table_entries d.table) + length (active_entries d.pair.active) + 1) (length b.entries) v.room (omega arith) (omega (arith, count)) r.room) size

-- what the hand of the active buffer leaves for that of the table
record Leaves (d : Driver) (v : Side) (n : ℕ) (e : Driver) (w : Side) : Type 0 where
  pub tables : e.tables ≡ d.tables
  pub at : e.at ≡ d.at
  pub third : w.third ≡ v.third
  pub heard : w.heard ≡ v.heard
  pub buckets : w.buckets ≡ v.buckets
  pub room : HasRoomFor 1 n w.room

-- after one hand there is room for one less
after_room : (n m : ℕ) (b : Sent) (o : Option Room) → length b.entries + m ≤ n → HasRoomFor 2 n o → HasRoomFor 1 m (room_after o b)
after_room n m b None l h = tt
after_room n m b (Some r) l h = (omega (arith, h.0), omega (arith, l, h.1))

active_leaves : (u : Setup) (d : Driver) (v : Side) (n : ℕ) (a : Option (List Counted)) → HasRoomFor 2 (n + length (active_entries a) + 1) v.room
    → Leaves d v n (hand_active u d v a).driver (hand_active u d v a).side
active_leaves u d v n None room = record {
  tables = refl;
  at = refl;
  third = refl;
  heard = refl;
  buckets = refl;
  room = less_room 2 1 (n + 0 + 1) n v.room (omega arith) (omega arith) room;
}
active_leaves u d v n (Some es) room =
    let b = d.pair.active_number in
    let x : Sent = record { note = buffer_header u d.at b (pair_handed d.pair b); entries = es } in
    let e : Driver = record d { pair = pair_handed d.pair b } in
    let left : HasRoomFor 1 n (room_after v.room x) = after_room (n + length es + 1) n x v.room (omega arith) room in
    by_hand (Leaves d v n e) v b x
    (record { tables = refl; at = refl; third = refl; heard = refl; buckets = refl; room = left })
    (record { tables = refl; at = refl; third = refl; heard = refl; buckets = refl; room = left })

-- then the table can be handed
can_third : (u : Setup) (f : Fixed) (d : Driver) (v : Side) (w : ℕ) (t : Table) (e : Driver) (x : Side) → Ready u f d v → d.table ≡ Some t → w ≡ v.heard → w ≤ 2 ^ 32
    → Leaves d v (length (entries_in t)) e x → CanHandTable u f e x w t
can_third u f d v w t e x r held heard bound l =
    let most : d.at ≤ 2000000 = omega (arith, r.at, due_most u.samples (v.heard / 2), r.setup_is.few) in
    let few : d.tables < 2 ^ 62 = omega (arith, r.few2, r.answered, heard, bound) in
    let count : length (table_entries d.table) ≡ length (entries_in t) = ap (λ (o : Option Table). length (table_entries o)) held in
    let same : e.at ≡ d.at = l.at in
    let upto : d.at ≤ due f.samples (v.heard / 2) = subst (λ (ss : List Marked). d.at ≤ due ss (v.heard / 2)) (sym r.side_is.samples) r.at in
    let rows : IfSome (Some t) (λ s. length s.rows ≡ v.buckets) = subst (λ (o : Option Table). IfSome o (λ s. length s.rows ≡ v.buckets)) held r.table in
    record {
      few = omega (arith, few, l.tables);
      cpu = r.setup_is.cpu;
      at = omega (arith, most, l.at);
      may = record {
        hand = record {
          holds = ap (λ (s : Slot). s.holds) l.third ∙ r.holds2 ∙ ap (λ (o : Option Table). is_some o) held;
          times = omega (arith, few, r.hands2, ap (λ (s : Slot). length s.handed) l.third);
          cpu = sym r.side_is.cpu;
          cell = refl;
          entries = omega (arith, r.held, count, l.at);
          upto = subst (λ (h : ℕ). e.at ≤ due f.samples (h / 2)) (sym l.heard) (subst (λ (n : ℕ). n ≤ due f.samples (v.heard / 2)) (sym l.at) upto);
          room = l.room;
        };
        answers = heard ∙ sym l.heard;
        size = rows ∙ sym l.buckets;
      };
    }

-- the table can be handed after the active buffer was
pub can_table : (u : Setup) (f : Fixed) (d : Driver) (v : Side) (w : ℕ) (t : Table) (o : Option Table) (e : Driver) (x : Side) (g : Fixed) → Ready u f d v → d.table ≡ Some t → w ≡ v.heard → w ≤ 2 ^ 32
    → Is (hand_active u (record d { table = o }) v d.pair.active) e x → g ≡ f → CanHandTable u g e x w t
can_table u f d v w t o e x g r held heard bound is same =
    let y = hand_active u (record d { table = o }) v d.pair.active in
    let count : length (table_entries d.table) ≡ length (entries_in t) = ap (λ (s : Option Table). length (table_entries s)) held in
    let room : HasRoomFor 2 (length (entries_in t) + length (active_entries d.pair.active) + 1) v.room =
    less_room 2 2 (length (table_entries d.table) + length (active_entries d.pair.active) + 1) (length (entries_in t) + length (active_entries d.pair.active) + 1) v.room (omega arith) (omega (arith, count)) r.room in
    let l = active_leaves u (record d { table = o }) v (length (entries_in t)) d.pair.active room in
    let m : Leaves d v (length (entries_in t)) y.driver y.side = record { tables = l.tables; at = l.at; third = l.third; heard = l.heard; buckets = l.buckets; room = l.room } in
    subst (λ (h : Fixed). CanHandTable u h e x w t) (sym same)
    (subst (λ (z : Driver). CanHandTable u f z x w t) (sym is.0) (subst (λ (z : Side). CanHandTable u f y.driver z w t) (sym is.1)
    (can_third u f d v w t y.driver y.side r held heard bound m)))

-- the active buffer that has space
pub active_of : (o : Option Contents) → IsSomeAnd o HasSpace → (b : Contents) × (o ≡ Some b)
active_of None h = absurd h
active_of (Some b) h = (b, refl)

-- the pair with this active buffer, or without one
pub pair_with : (p q : Pair) (o : Option Contents) → q ≡ record p { active = q.active } → q.active ≡ o → buffers_of q ≡ record (buffers_of p) { active = entries_if o }
pair_with p q o rest is = ap buffers_of rest ∙ ap (λ (a : Option Contents). record (buffers_of p) { active = entries_if a }) is

-- the buffer can be handed once it was taken out
pub can_gone : (u : Setup) (f : Fixed) (d m : Driver) (v : Side) (b c : Contents) → m ≡ record d { pair = record d.pair { active = None } } → c ≡ b → CanHand u f d v b → CanHand u f m v c
can_gone u f d m v b c same is h =
    subst (λ (z : Contents). CanHand u f m v z) (sym is)
    (subst (λ (z : Driver). CanHand u f z v b) (sym same) (record { number = h.number; few0 = h.few0; few1 = h.few1; cpu = h.cpu; at = h.at; may = h.may }))
