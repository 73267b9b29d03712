use Rattle.std.proofs.Common.{◌≡◌, ℕ, ◌+◌, ◌*◌, ◌/◌, ◌≤◌, List, [], ◌∷◌, ◌++◌, length, drop, refl, sym, ◌∙◌, ap, subst, arith, Some, None, Option, leb, ltb, length-append}
use Rattle.std.specs.Prelude.{MatchOption, IsSomeAnd}
use Rattle.std.proofs.lemmas.Bool.{cond_both}
use Rattle.sample_key.specs.Counted.{Counted}
use Rattle.sample_key.specs.Sent.{Sent}
use Rattle.sample_key.specs.declared.keys.Key.{Key}
use Rattle.sample_key.specs.declared.keys.Marked.{Marked}
use Rattle.sample_key.specs.declared.losses.Pace.{Pace}
use Rattle.sample_key.specs.declared.losses.Pace.TheVariants.{Free, Exact}
use Rattle.driver_model.specs.Lists.{AllOf}
use Rattle.driver_model.specs.Table.{Table, entries_in, empty_table}
use Rattle.driver_model.specs.Sides.{side_hand_buffer, HasRoomFor, Room, Side, is_even, room_after, side_hear, side_look_table, side_look_buffer}
use Rattle.driver_model.specs.Driver.{Two, Words, ends_with, regain, hand_active, answer_with, other, word_at, look_other, find_buffer, write, write_sample, take_sample, next_sample, after_regain, turn_of, Setup, Driver, World, Turned, take_next, entry_to_write, needs_write, activate, pair_handed, buffer_header, table_header, hand_buffer, hand_table, answers_now}
use Rattle.driver_model.specs.Invariant.{FullOrCut, last_answer, table_entries, active_entries, entries_of, DriverInvariant}
use Rattle.driver_model.specs.declared.answers.Turn.TheVariants.{Took, Held, Done}
use Rattle.driver_laws.proofs.Tables.{empty_entries}
use Rattle.driver_laws.proofs.Marks.{due_most}
use Rattle.driver_laws.proofs.Parts.{entries-push, few_answers}
use Rattle.driver_laws.specs.Turns.{hands_in, entries_handed, SameTotal, RoomLowered}
use Rattle.driver_laws.proofs.Looks.{by_hand, by_look}

-- the room of a side falls by what is handed, and by nothing else

-- the same room and the same batches
same_room : (v w : Side) → w.room ≡ v.room → w.first.handed ≡ v.first.handed → w.second.handed ≡ v.second.handed → w.third.handed ≡ v.third.handed → RoomLowered v w
same_room v w e a b c = at v.room e
  where
    at : (o : Option Room) → w.room ≡ o → MatchOption o (w.room ≡ None) (λ r. IsSomeAnd w.room (λ s. SameTotal r v s w))
    at None e = e
    at (Some r) e = subst (λ (o : Option Room). IsSomeAnd o (λ s. SameTotal r v s w)) (sym e) (
      omega (arith, ap (λ (z : List Sent). length z) a, ap (λ (z : List Sent). length z) b, ap (λ (z : List Sent). length z) c),
      omega (arith, ap (λ (z : List Sent). entries_of z) a, ap (λ (z : List Sent). entries_of z) b, ap (λ (z : List Sent). entries_of z) c),
    )

-- one hand after another
two_rooms : (v w x : Side) → RoomLowered v w → RoomLowered w x → RoomLowered v x
two_rooms v w x h g = at v.room w.room h g
  where
    at : (o p : Option Room) → MatchOption o (p ≡ None) (λ r. IsSomeAnd p (λ s. SameTotal r v s w)) → MatchOption p (x.room ≡ None) (λ r. IsSomeAnd x.room (λ s. SameTotal r w s x))
        → MatchOption o (x.room ≡ None) (λ r. IsSomeAnd x.room (λ s. SameTotal r v s x))
    at None None h g = g
    at None (Some s) h g = cc
    at (Some r) None h g = absurd h
    at (Some r) (Some s) h g = last x.room h g
      where
        last : (q : Option Room) → SameTotal r v s w → IsSomeAnd q (λ y. SameTotal s w y x) → IsSomeAnd q (λ y. SameTotal r v y x)
        last None h g = g
        last (Some y) h g = (omega (arith, h.0, g.0), omega (arith, h.1, g.1))

-- one batch was handed
one_hand : (v w : Side) (b : Sent) → HasRoomFor 1 (length b.entries) v.room → w.room ≡ room_after v.room b → hands_in w ≡ hands_in v + 1
    → entries_handed w ≡ entries_handed v + length b.entries → RoomLowered v w
one_hand v w b f e n m = at v.room f e
  where
    at : (o : Option Room) → HasRoomFor 1 (length b.entries) o → w.room ≡ room_after o b → MatchOption o (w.room ≡ None) (λ r. IsSomeAnd w.room (λ s. SameTotal r v s w))
    at None f e = e
    at (Some r) f e = subst (λ (o : Option Room). IsSomeAnd o (λ s. SameTotal r v s w)) (sym e) (omega (arith, f.0, n), omega (arith, f.1, m))

-- a buffer was handed
buffer_room : (u : Setup) (d : Driver) (v : Side) (b : ℕ) (es : List Counted) → HasRoomFor 1 (length es) v.room → RoomLowered v (hand_buffer u d v b es).side
buffer_room u d v b es f =
    let x : Sent = record { note = buffer_header u d.at b (pair_handed d.pair b); entries = es } in
    by_hand (RoomLowered v) v b x
    (one_hand v (side_hand_buffer v 0 x) x f refl (omega (arith, length-append v.first.handed (x ∷ []))) (omega (arith, entries-push v.first.handed x)))
    (one_hand v (side_hand_buffer v 1 x) x f refl (omega (arith, length-append v.second.handed (x ∷ []))) (omega (arith, entries-push v.second.handed x)))

-- the table was handed
table_room : (u : Setup) (d : Driver) (v : Side) (w : ℕ) (t : Table) → HasRoomFor 1 (length (entries_in t)) v.room → RoomLowered v (hand_table u d v w t).side
table_room u d v w t f =
    let x : Sent = record { note = table_header u d w; entries = entries_in t } in
    one_hand v (hand_table u d v w t).side x f refl (omega (arith, length-append v.third.handed (x ∷ []))) (omega (arith, entries-push v.third.handed x))

-- less room is enough for less
pub less_room : (a b m n : ℕ) (o : Option Room) → b ≤ a → n ≤ m → HasRoomFor a m o → HasRoomFor b n o
less_room a b m n None l k h = tt
less_room a b m n (Some r) l k h = (omega (arith, h.0), omega (arith, h.1))

-- after one hand there is room for one less
after_room : (n m : ℕ) (v w : Side) (b : Sent) → w.room ≡ room_after v.room b → length b.entries + m ≤ n → HasRoomFor 2 n v.room → HasRoomFor 1 m w.room
after_room n m v w b e l f = subst (λ (o : Option Room). HasRoomFor 1 m o) (sym e) (at v.room f)
  where
    at : (o : Option Room) → HasRoomFor 2 n o → HasRoomFor 1 m (room_after o b)
    at None f = tt
    at (Some r) f = (omega (arith, f.0), omega (arith, f.1))

-- what a flush hands
answer_room : (u : Setup) (d : Driver) (v : Side) (w : ℕ) (t : Table) (a : Option (List Counted)) → HasRoomFor 2 (length (entries_in t) + length (active_entries a) + 1) v.room
    → RoomLowered v (hand_table u (hand_active u d v a).driver (hand_active u d v a).side w t).side
answer_room u d v w t None f = table_room u d v w t (less_room 2 1 (length (entries_in t) + 0 + 1) (length (entries_in t)) v.room (omega arith) (omega arith) f)
answer_room u d v w t (Some es) f =
    let b = d.pair.active_number in let y = hand_buffer u d v b es in
    let x : Sent = record { note = buffer_header u d.at b (pair_handed d.pair b); entries = es } in
    let room : y.side.room ≡ room_after v.room x = by_hand (λ (z : Side). z.room ≡ room_after v.room x) v b x refl refl in
    two_rooms v y.side (hand_table u y.driver y.side w t).side
    (buffer_room u d v b es (less_room 2 1 (length (entries_in t) + length es + 1) (length es) v.room (omega arith) (omega arith) f))
    (table_room u y.driver y.side w t (after_room (length (entries_in t) + length es + 1) (length (entries_in t)) v y.side x room (omega arith) f))

-- a look leaves the room and the batches
look_room : (v : Side) (b w : ℕ) → ((side_look_buffer v b w).room ≡ v.room) × RoomLowered v (side_look_buffer v b w)
look_room v b w =
    by_look (λ (z : Side). (z.room ≡ v.room) × RoomLowered v z) v b w
    (refl, same_room v (side_look_buffer v 0 w) refl refl refl refl) (refl, same_room v (side_look_buffer v 1 w) refl refl refl refl)

-- what a write hands, where the active buffer has at most so many entries
write_room : (u : Setup) (y : World) (k : Key) (p : Pace) (a : Option (List Counted)) (n : ℕ) → length (active_entries a) ≤ n → HasRoomFor 1 (n + 1) y.side.room → RoomLowered y.side (write u y k p a).side
write_room u y k Free None n l f = same_room y.side y.side refl refl refl refl
write_room u y k Exact None n l f = same_room y.side y.side refl refl refl refl
write_room u y k p (Some es) n l f =
    let d = take_next y.driver k y.driver.table in
    let full = es ++ entry_to_write k y.driver.table ∷ [] in
    cond_both (leb u.size (length full)) (hand_buffer u d y.side d.pair.active_number full) (record { driver = record d { pair = record d.pair { active = Some full } }; side = y.side })
    (λ (z : World). RoomLowered y.side z.side)
    (λ e. buffer_room u d y.side d.pair.active_number full (less_room 1 1 (n + 1) (length full) y.side.room (omega arith) (omega (arith, l, length-append es (entry_to_write k y.driver.table ∷ []))) f))
    (λ e. same_room y.side y.side refl refl refl refl)

-- what a write hands after a buffer was looked for
find_room : (u : Setup) (h : Two) (d : Driver) (v : Side) (k : Key) (a : Option (List Counted)) → d.pair.active ≡ a → HasRoomFor 1 (length (active_entries a) + 1) v.room
    → RoomLowered v (write u (find_buffer h d v a) k u.pace (find_buffer h d v a).driver.pair.active).side
find_room u h d v k (Some es) e f =
    write_room u (record { driver = d; side = v }) k u.pace d.pair.active (length es) (omega (arith, ap (λ (z : Option (List Counted)). length (active_entries z)) e)) f
find_room u h d v k None e f =
    let b = d.pair.next in let v1 = side_look_buffer v b (word_at h b) in let v2 = side_look_buffer v1 (other b) (word_at h (other b)) in
    let r1 = look_room v b (word_at h b) in let r2 = look_room v1 (other b) (word_at h (other b)) in
    cond_both (is_even (word_at h b)) (record { driver = activate d b; side = v1 }) (look_other h d v1 (other b))
    (λ (y : World). RoomLowered v (write u y k u.pace y.driver.pair.active).side)
    (λ even. two_rooms v v1 (write u (record { driver = activate d b; side = v1 }) k u.pace (Some [])).side r1.1
    (write_room u (record { driver = activate d b; side = v1 }) k u.pace (Some []) 0 (omega arith) (subst (λ (o : Option Room). HasRoomFor 1 1 o) (sym r1.0) f)))
    (λ odd.
    let f2 : HasRoomFor 1 1 v2.room = subst (λ (o : Option Room). HasRoomFor 1 1 o) (sym (r2.0 ∙ r1.0)) f in
    let both : RoomLowered v v2 = two_rooms v v1 v2 r1.1 r2.1 in
    cond_both (is_even (word_at h (other b))) (activate d (other b)) d
    (λ (z : Driver). RoomLowered v (write u (record { driver = z; side = v2 }) k u.pace z.pair.active).side)
    (λ even. two_rooms v v2 (write u (record { driver = activate d (other b); side = v2 }) k u.pace (Some [])).side both
    (write_room u (record { driver = activate d (other b); side = v2 }) k u.pace (Some []) 0 (omega arith) f2))
    (λ out. two_rooms v v2 (write u (record { driver = d; side = v2 }) k u.pace d.pair.active).side both
    (write_room u (record { driver = d; side = v2 }) k u.pace d.pair.active 0 (omega (arith, ap (λ (z : Option (List Counted)). length (active_entries z)) e)) f2)))

-- what a turn hands after the table was looked for
after_room_falls : (u : Setup) (h : Words) (y : World) (o : Option Table) → y.driver.table ≡ o → HasRoomFor 2 (length (table_entries o) + length (active_entries y.driver.pair.active) + 1) y.side.room
    → RoomLowered y.side (after_regain u h y).side
after_room_falls u h y o e f =
    let same : RoomLowered y.side y.side = same_room y.side y.side refl refl refl refl in
    cond_both (answers_now u y.driver h.bell) (answer_with u y h.bell y.driver.table) (next_sample u h.two h.bell y (drop y.driver.at u.samples)) (λ (t : Turned). RoomLowered y.side t.side)
    (λ a. subst (λ (z : Option Table). RoomLowered y.side (answer_with u y h.bell z).side) (sym e) (answers o f))
    (λ a. next (drop y.driver.at u.samples))
  where
    answers : (o : Option Table) → HasRoomFor 2 (length (table_entries o) + length (active_entries y.driver.pair.active) + 1) y.side.room → RoomLowered y.side (answer_with u y h.bell o).side
    answers None f = same_room y.side y.side refl refl refl refl
    answers (Some t) f = answer_room u y.driver y.side h.bell t y.driver.pair.active f

    next : (l : List Marked) → RoomLowered y.side (next_sample u h.two h.bell y l).side
    next [] = same_room y.side y.side refl refl refl refl
    next (s ∷ rest) =
        cond_both (ltb (h.bell / 2) s.mark) (ends_with y Held) (take_sample u h.two y s.key) (λ (t : Turned). RoomLowered y.side t.side)
        (λ b. same_room y.side y.side refl refl refl refl)
        (λ b. cond_both (needs_write s.key y.driver.table) (write_sample u h.two y s.key) (ends_with (record { driver = take_next y.driver s.key y.driver.table; side = y.side }) Took) (λ (t : Turned). RoomLowered y.side t.side)
        (λ c. find_room u h.two y.driver y.side s.key y.driver.pair.active refl
        (less_room 2 1 (length (table_entries o) + length (active_entries y.driver.pair.active) + 1) (length (active_entries y.driver.pair.active) + 1) y.side.room (omega arith) (omega arith) f))
        (λ c. same_room y.side y.side refl refl refl refl))

-- a turn lowers the room by what it hands
pub room_turn : (u : Setup) (h : Words) (d : Driver) (v : Side) → HasRoomFor 2 (length (table_entries d.table) + length (active_entries d.pair.active) + 1) v.room
    → RoomLowered v (turn_of u h (record { driver = d; side = v })).side
room_turn u h d v f =
    let x : World = record { driver = d; side = v } in let w = side_hear v h.bell in
    cond_both d.done (ends_with x Done) (after_regain u h (regain d w h.third d.table)) (λ (t : Turned). RoomLowered v t.side)
    (λ e. same_room v v refl refl refl refl)
    (λ e. regained d.table refl f)
  where
    regained : (o : Option Table) → d.table ≡ o → HasRoomFor 2 (length (table_entries o) + length (active_entries d.pair.active) + 1) v.room
        → RoomLowered v (after_regain u h (regain d (side_hear v h.bell) h.third o)).side
    regained (Some t) e f =
        let w = side_hear v h.bell in let y : World = record { driver = d; side = w } in
        two_rooms v w (after_regain u h y).side (same_room v w refl refl refl refl) (after_room_falls u h y (Some t) e f)
    regained None e f =
        let w = side_look_table (side_hear v h.bell) h.third in
        cond_both (is_even h.third) (record d { table = Some (empty_table v.buckets v.turn) }) d (λ (z : Driver). RoomLowered v (after_regain u h (record { driver = z; side = w })).side)
        (λ even. let y : World = record { driver = record d { table = Some (empty_table v.buckets v.turn) }; side = w } in
        two_rooms v w (after_regain u h y).side (same_room v w refl refl refl refl)
        (after_room_falls u h y (Some (empty_table v.buckets v.turn)) refl
        (less_room 2 2 (0 + length (active_entries d.pair.active) + 1) (length (entries_in (empty_table v.buckets v.turn)) + length (active_entries d.pair.active) + 1) v.room (omega arith)
        (omega (arith, ap (λ (z : List Counted). length z) (empty_entries v.buckets v.turn))) f)))
        (λ odd. let y : World = record { driver = d; side = w } in
        two_rooms v w (after_regain u h y).side (same_room v w refl refl refl refl) (after_room_falls u h y None e f))

-- no more batches than entries, where none is empty
pub few_entries : (cell size : ℕ) (tables bs : List Sent) → AllOf (FullOrCut cell size tables) bs → length bs ≤ entries_of bs
few_entries cell size tables [] h = omega arith
few_entries cell size tables (b ∷ bs) h = omega (arith, h.0.0, few_entries cell size tables bs h.1)

-- the room is enough
pub enough_room : (u : Setup) (d : Driver) (v : Side) (r : Room) (requests : ℕ) → DriverInvariant u d v
    → r.hands + hands_in v ≡ length u.samples + 2 * requests + 2 → r.entries + entries_handed v ≡ length u.samples + 1 → d.answered ≤ 2 * requests
    → HasRoomFor 2 (length (table_entries d.table) + length (active_entries d.pair.active) + 1) (Some r)
enough_room u d v r requests i hands entries few =
    let most : d.at ≤ length u.samples = omega (arith, i.in_range.at, due_most u.samples (v.heard / 2)) in
    let first = few_entries 0 u.size v.third.handed v.first.handed i.well_formed.sizes0 in
    let second = few_entries 1 u.size v.third.handed v.second.handed i.well_formed.sizes1 in
    let third : 0 + length v.third.handed ≤ last_answer 0 v.third.handed = few_answers v.third.handed 0 [] (λ b g. omega (arith, g.0)) i.answers_rise.rise in (
      omega (arith, hands, few, most, first, second, third, i.answers_rise.last, i.counted.written, i.counted.placed, i.counted.all),
      omega (arith, entries, most, i.counted.written, i.counted.placed, i.counted.all),
    )
