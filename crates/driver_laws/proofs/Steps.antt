use Rattle.std.proofs.Common.{◌≡◌, ℕ, ◌+◌, ◌*◌, ◌/◌, ◌%◌, ◌<◌, ◌≤◌, List, [], ◌∷◌, ◌++◌, length, drop, refl, sym, ap, subst, arith, inl, inr, true, false, not, Some, None, Option, leb, ltb, eqb, ◌&&◌, ◌||◌, leb-true, leb-false, ltb-true, ltb-false, eqb-true}
use Rattle.std.specs.Prelude.{is_some, IfSome}
use Rattle.std.proofs.lemmas.Bool.{cond_both, and_parts}
use Rattle.sample_key.specs.Counted.{Counted}
use Rattle.sample_key.specs.Marks.{due}
use Rattle.sample_key.specs.Sent.{Sent}
use Rattle.sample_key.specs.declared.keys.Key.{Key}
use Rattle.sample_key.specs.declared.keys.Marked.{Marked}
use Rattle.sample_key.specs.declared.losses.Pace.{Pace}
use Rattle.sample_key.specs.declared.losses.Pace.TheVariants.{Free, Exact}
use Rattle.driver_model.specs.Table.{Table, entries_in, empty_table}
use Rattle.driver_model.specs.Sides.{Side, is_even, side_hear, side_look_table, side_look_buffer}
use Rattle.driver_model.specs.Driver.{buffer_batch, Two, Words, ends_with, regain, hand_active, answer_with, other, word_at, look_other, find_buffer, push, write, write_sample, take_sample, next_sample, after_regain, turn_of, Setup, Driver, World, Turned, take_next, entry_to_write, needs_write, activate, pair_handed, table_header, hand_buffer, hand_table, lose, may_answer, answers_now}
use Rattle.driver_model.specs.Invariant.{IsSetup, FullOrCut, CutBy, DriverInvariant}
use Rattle.driver_model.specs.declared.answers.Turn.TheVariants.{Took, Held, Done}
use Rattle.driver_laws.proofs.Lists.{by_number, odd_of, some_push, some_last}
use Rattle.driver_laws.proofs.Looks.{by_hand, by_look, look_ends}
use Rattle.driver_laws.proofs.Loose.{Loose, loose_of, strict_of}
use Rattle.driver_laws.proofs.Changes.{kept_holds, kept_hear, kept_table_back, kept_table_out, kept_counted, kept_out0, kept_out1, kept_back0, kept_back1}
use Rattle.driver_laws.proofs.Pushes.{kept_pushed, kept_hand}
use Rattle.driver_laws.proofs.Ends.{kept_lost, closed_by}
use Rattle.driver_laws.specs.Turns.{AreFairWords, KeepsAfter}

-- a turn keeps the invariant: the small changes joined, as the definition of the turn joins them

-- a short batch is cut by a table batch also when there is one more
cut_later : (u : Setup) (x : Sent) (tables : List Sent) (cell : ℕ) (c : Sent) → FullOrCut cell u.size tables c → FullOrCut cell u.size (tables ++ x ∷ []) c
cut_later u x tables cell c (some, few, inl full) = (some, few, inl full)
cut_later u x tables cell c (some, few, inr cut) = (some, few, inr (some_push (CutBy cell c) tables x cut))

-- another list of table batches may cut, and the active buffer has at least and fewer than other numbers of entries
resized : (tables new : List Sent) (least most fewest fewer : ℕ) (u : Setup) (d : Driver) (v : Side)
    → ((cell : ℕ) (c : Sent) → FullOrCut cell u.size tables c → FullOrCut cell u.size new c)
    → IfSome d.pair.active (λ es. (fewest ≤ length es) × (length es < fewer))
    → Loose tables least most u d v → Loose new fewest fewer u d v
resized tables new least most fewest fewer u d v more active i =
    kept_holds tables new least most fewest fewer u d d v v more refl refl i.holds0 i.holds1 i.holds2 i.table active i.number (omega arith) i

-- the table was looked for where it was not held
regain_kept : (u : Setup) (d : Driver) (v : Side) (word : ℕ) (o : Option Table) → d.table ≡ o → Loose v.third.handed 1 v.buffer u d v
    → Loose v.third.handed 1 v.buffer u (regain d v word o).driver (regain d v word o).side
regain_kept u d v word (Some t) e i = i
regain_kept u d v word None e i =
    cond_both (is_even word) (record d { table = Some (empty_table v.buckets v.turn) }) d
    (λ (z : Driver). Loose v.third.handed 1 v.buffer u z (side_look_table v word))
    (λ even. kept_table_back v.third.handed 1 v.buffer u d v word e even i)
    (λ odd. kept_table_out v.third.handed 1 v.buffer u d v word e odd i)

-- whether the driver may answer does not depend on its buffers
may_same : (u : Setup) (d e : Driver) (w : ℕ) (p : Pace) → e.at ≡ d.at → may_answer u d w p ≡ true → may_answer u e w p ≡ true
may_same u d e w Free same h = subst (λ (n : ℕ). (not (eqb w u.last) || leb (length u.samples) n) ≡ true) (sym same) h
may_same u d e w Exact same h = subst (λ (n : ℕ). eqb (due (drop n u.samples) (w / 2)) 0 ≡ true) (sym same) h

-- a flush is answered, by what is active
answer_active : (u : Setup) (d : Driver) (v : Side) (w : ℕ) (t : Table) (a : Option (List Counted)) → IsSetup u → u.size ≡ v.buffer → d.pair.active ≡ a → d.table ≡ Some t
    → w ≡ v.heard → w % 2 ≡ 1 → d.answered < w → may_answer u d w u.pace ≡ true → Loose v.third.handed 1 v.buffer u d v
    → DriverInvariant u (hand_table u (hand_active u d v a).driver (hand_active u d v a).side w t).driver (hand_table u (hand_active u d v a).driver (hand_active u d v a).side w t).side
answer_active u d v w t None setup size active held here odd above may i =
    closed_by v.buffer u d v w t setup active held here odd above may
    (resized v.third.handed (v.third.handed ++ (record { note = table_header u d w; entries = entries_in t }) ∷ []) 1 v.buffer 1 v.buffer u d v
    (λ cell c. cut_later u (record { note = table_header u d w; entries = entries_in t }) v.third.handed cell c) i.active i)
answer_active u d v w t (Some es) setup size active held here odd above may i =
    let has : (1 ≤ length es) × (length es < v.buffer) = subst (λ (z : Option (List Counted)). IfSome z (λ es. (1 ≤ length es) × (length es < v.buffer))) active i.active in
    let n : ℕ = d.pair.active_number in
    let b : Sent = buffer_batch u d.at n (pair_handed d.pair n) es in
    let d1 = (hand_buffer u d v n es).driver in let v1 = (hand_buffer u d v n es).side in
    let x : Sent = record { note = table_header u d1 w; entries = entries_in t } in
    let kept = kept_hand v.third.handed (v.third.handed ++ x ∷ []) 1 v.buffer u d v es (λ cell c. cut_later u x v.third.handed cell c) active
    (has.0, omega (arith, size, has.1), inr (some_last (CutBy n b) v.third.handed x (refl, refl))) i in
    closed_by v.buffer u d1 v1 w t setup (by_number (λ (m : ℕ). (pair_handed d.pair m).active ≡ None) n i.number refl refl) held
    (by_hand (λ (z : Side). w ≡ z.heard) v n b here here) odd above (may_same u d d1 w u.pace refl may)
    (by_hand (λ (z : Side). Loose (z.third.handed ++ x ∷ []) 1 v.buffer u d1 v1) v n b kept kept)

-- a flush is answered
answer_kept : (u : Setup) (d : Driver) (v : Side) (w : ℕ) (o : Option Table) → IsSetup u → u.size ≡ v.buffer → d.table ≡ o → w ≡ v.heard → answers_now u d w ≡ true
    → Loose v.third.handed 1 v.buffer u d v → KeepsAfter u (answer_with u (record { driver = d; side = v }) w o)
answer_kept u d v w None setup size held here answers i = strict_of u d v i
answer_kept u d v w (Some t) setup size held here answers i =
    let p = and_parts (eqb (w % 2) 1 && ltb d.answered w && is_some d.table) (may_answer u d w u.pace) answers in
    let q = and_parts (eqb (w % 2) 1 && ltb d.answered w) (is_some d.table) p.0 in
    let r = and_parts (eqb (w % 2) 1) (ltb d.answered w) q.0 in
    answer_active u d v w t d.pair.active setup size refl held here (eqb-true (w % 2) 1 r.0) (ltb-true d.answered w r.1) p.1 i

-- the sample is written to the active buffer, which is handed if that filled it
write_active : (least : ℕ) (u : Setup) (d : Driver) (v : Side) (s : Marked) (rest : List Marked) (es : List Counted) → IsSetup u → u.size ≡ v.buffer
    → d.pair.active ≡ Some es → needs_write s.key d.table ≡ true → drop d.at u.samples ≡ s ∷ rest → s.mark ≤ v.heard / 2
    → Loose v.third.handed least v.buffer u d v
    → DriverInvariant u (push u (record { driver = d; side = v }) s.key es).driver (push u (record { driver = d; side = v }) s.key es).side
write_active least u d v s rest es setup size active needs left mark i =
    let few : (least ≤ length es) × (length es < v.buffer) = subst (λ (z : Option (List Counted)). IfSome z (λ es. (least ≤ length es) × (length es < v.buffer))) active i.active in
    let full : List Counted = es ++ entry_to_write s.key d.table ∷ [] in
    let d1 : Driver = take_next d s.key d.table in
    let e : Driver = record d1 { pair = record d1.pair { active = Some full } } in
    let n : ℕ = e.pair.active_number in
    let handed : World = hand_buffer u e v n full in
    let pushed : Loose v.third.handed 1 (v.buffer + 1) u e v = kept_pushed v.third.handed least v.buffer u d v es s rest d.table setup.rising refl needs active few.1 left mark i in
    cond_both (leb u.size (length full)) handed (record { driver = e; side = v })
    (λ (z : World). DriverInvariant u z.driver z.side)
    (λ fills.
    let long : u.size ≤ length full = leb-true u.size (length full) fills in
    let short : length full < v.buffer + 1 = pushed.active.1 in
    let kept = kept_hand v.third.handed v.third.handed 1 (v.buffer + 1) u e v full (λ cell c h. h) refl (pushed.active.0, omega arith, inl (omega arith)) pushed in
    strict_of u handed.driver handed.side
    (by_hand (λ (z : Side). Loose z.third.handed 1 z.buffer u handed.driver handed.side) v n (buffer_batch u e.at n (pair_handed e.pair n) full) kept kept))
    (λ partly. strict_of u e v
    (resized v.third.handed v.third.handed 1 (v.buffer + 1) 1 v.buffer u e v (λ cell c h. h) (pushed.active.0, omega (arith, leb-false u.size (length full) partly)) pushed))

-- no buffer is back: the sample is lost or held
write_none : (u : Setup) (d : Driver) (v : Side) (s : Marked) (rest : List Marked) (p : Pace) → IsSetup u → u.pace ≡ p → drop d.at u.samples ≡ s ∷ rest → s.mark ≤ v.heard / 2
    → v.first.read % 2 ≡ 1 → v.first.read + 1 ≡ 2 * length v.first.handed → v.second.read % 2 ≡ 1 → v.second.read + 1 ≡ 2 * length v.second.handed
    → Loose v.third.handed 1 v.buffer u d v → KeepsAfter u (write u (record { driver = d; side = v }) s.key p None)
write_none u d v s rest Free setup pace left mark odd0 fair0 odd1 fair1 i =
    strict_of u (lose (record { driver = d; side = v }) s.key).driver v
    (kept_lost v.third.handed 1 v.buffer u d v s rest setup.rising pace left mark odd0 fair0 odd1 fair1 i)
write_none u d v s rest Exact setup pace left mark odd0 fair0 odd1 fair1 i = strict_of u d v i

-- what a turn that writes must keep, from where the buffers were looked for
abbrev Writes : Setup → Key → World → Type 0
Writes u k y = KeepsAfter u (write u y k u.pace y.driver.pair.active)

-- the sample needs a write, by what is active
write_kept : (u : Setup) (h : Two) (d : Driver) (v : Side) (s : Marked) (rest : List Marked) (a : Option (List Counted)) → IsSetup u → u.size ≡ v.buffer → AreFairWords v h
    → d.pair.active ≡ a → needs_write s.key d.table ≡ true → drop d.at u.samples ≡ s ∷ rest → s.mark ≤ v.heard / 2 → Loose v.third.handed 1 v.buffer u d v
    → Writes u s.key (find_buffer h d v a)
write_kept u h d v s rest (Some es) setup size fair active needs left mark i =
    subst (λ (a : Option (List Counted)). KeepsAfter u (write u (record { driver = d; side = v }) s.key u.pace a)) (sym active)
    (write_active 1 u d v s rest es setup size active needs left mark i)
write_kept u h d v s rest None setup size fair active needs left mark i =
    let tables = v.third.handed in let most = v.buffer in
    let v0 = side_look_buffer v 0 h.first in let v1 = side_look_buffer v 1 h.second in let both = side_look_buffer v0 1 h.second in
    look_ends (Writes u s.key) h d v d.pair.next i.next
    (λ even. write_active 0 u (activate d 0) v0 s rest [] setup size refl needs left mark (kept_back0 tables 1 most u d v h.first active even i))
    (λ even. write_active 0 u (activate d 1) v1 s rest [] setup size refl needs left mark (kept_back1 tables 1 most u d v h.second active even i))
    (λ odd even. write_active 0 u (activate d 1) both s rest [] setup size refl needs left mark
    (kept_back1 tables 1 most u d v0 h.second active even (kept_out0 tables 1 most u d v h.first active odd i)))
    (λ odd even. write_active 0 u (activate d 0) (side_look_buffer v1 0 h.first) s rest [] setup size refl needs left mark
    (kept_back0 tables 1 most u d v1 h.first active even (kept_out1 tables 1 most u d v h.second active odd i)))
    (λ odd0 odd1. subst (λ (a : Option (List Counted)). KeepsAfter u (write u (record { driver = d; side = both }) s.key u.pace a)) (sym active)
    (write_none u d both s rest u.pace setup refl left mark (odd_of h.first odd0) (fair.0 odd0) (odd_of h.second odd1) (fair.1 odd1)
    (kept_out1 tables 1 most u d v0 h.second active odd1 (kept_out0 tables 1 most u d v h.first active odd0 i))))

-- the next sample is due, by where the table is
sample_kept : (u : Setup) (h : Two) (d : Driver) (v : Side) (s : Marked) (rest : List Marked) (o : Option Table) → IsSetup u → u.size ≡ v.buffer → AreFairWords v h
    → d.table ≡ o → drop d.at u.samples ≡ s ∷ rest → s.mark ≤ v.heard / 2 → Loose v.third.handed 1 v.buffer u d v
    → needs_write s.key o ≡ false → KeepsAfter u (ends_with (record { driver = take_next d s.key o; side = v }) Took)
sample_kept u h d v s rest None setup size fair held left mark i needs = cc
sample_kept u h d v s rest (Some t) setup size fair held left mark i needs =
    strict_of u (take_next d s.key (Some t)) v (kept_counted v.third.handed 1 v.buffer u d v t s rest setup.rising held needs left mark i)

-- the turn goes on with the samples that are left
next_kept : (u : Setup) (h : Two) (w : ℕ) (d : Driver) (v : Side) (l : List Marked) → IsSetup u → u.size ≡ v.buffer → AreFairWords v h → w ≡ v.heard
    → drop d.at u.samples ≡ l → Loose v.third.handed 1 v.buffer u d v → KeepsAfter u (next_sample u h w (record { driver = d; side = v }) l)
next_kept u h w d v [] setup size fair here left i = strict_of u d v i
next_kept u h w d v (s ∷ rest) setup size fair here left i =
    let x : World = record { driver = d; side = v } in
    cond_both (ltb (w / 2) s.mark) (ends_with x Held) (take_sample u h x s.key) (KeepsAfter u)
    (λ later. strict_of u d v i)
    (λ is_due.
    let mark : s.mark ≤ v.heard / 2 = omega (arith, ltb-false (w / 2) s.mark is_due, ap (λ (n : ℕ). n / 2) here) in
    cond_both (needs_write s.key d.table) (write_sample u h x s.key) (ends_with (record { driver = take_next d s.key d.table; side = v }) Took) (KeepsAfter u)
    (λ needs. write_kept u h d v s rest d.pair.active setup size fair refl needs left mark i)
    (λ none. sample_kept u h d v s rest d.table setup size fair refl left mark i none))

-- the turn goes on after the table was looked for
after_kept : (u : Setup) (h : Words) (d : Driver) (v : Side) → IsSetup u → u.size ≡ v.buffer → AreFairWords v h.two → h.bell ≡ v.heard → Loose v.third.handed 1 v.buffer u d v
    → KeepsAfter u (after_regain u h (record { driver = d; side = v }))
after_kept u h d v setup size fair here i =
    let x : World = record { driver = d; side = v } in
    cond_both (answers_now u d h.bell) (answer_with u x h.bell d.table) (next_sample u h.two h.bell x (drop d.at u.samples)) (KeepsAfter u)
    (λ answers. answer_kept u d v h.bell d.table setup size refl here answers i)
    (λ none. next_kept u h.two h.bell d v (drop d.at u.samples) setup size fair here refl i)

-- the turn goes on after the table was looked for, by where the table was
regained_kept : (u : Setup) (h : Words) (d : Driver) (v : Side) (o : Option Table) → IsSetup u → u.size ≡ v.buffer → AreFairWords v h.two → h.bell ≡ v.heard → d.table ≡ o
    → Loose v.third.handed 1 v.buffer u d v → KeepsAfter u (after_regain u h (regain d v h.third o))
regained_kept u h d v (Some t) setup size fair here held i = after_kept u h d v setup size fair here i
regained_kept u h d v None setup size fair here held i =
    after_kept u h (regain d v h.third None).driver (side_look_table v h.third) setup size fair here (regain_kept u d v h.third None held i)

-- a turn keeps the invariant
pub kept_turn : (u : Setup) (h : Words) (d : Driver) (v : Side) → IsSetup u → u.size ≡ v.buffer → AreFairWords v h.two → v.heard ≤ h.bell → DriverInvariant u d v
    → KeepsAfter u (turn_of u h (record { driver = d; side = v }))
kept_turn u h d v setup size fair later i =
    cond_both d.done (ends_with (record { driver = d; side = v }) Done) (after_regain u h (regain d (side_hear v h.bell) h.third d.table)) (KeepsAfter u)
    (λ done. i)
    (λ going. regained_kept u h d (side_hear v h.bell) d.table setup size fair refl refl
    (kept_hear v.third.handed 1 v.buffer u d v h.bell later (loose_of u d v i going)))

-- how many calls one result made
abbrev Within : Side → ℕ → Turned → Type 0
Within v n t = t.side.steps ≤ v.steps + n

look_steps : (v : Side) (b w : ℕ) → (side_look_buffer v b w).steps ≡ v.steps + 1
look_steps v b w = by_look (λ (z : Side). z.steps ≡ v.steps + 1) v b w refl refl

hand_steps : (u : Setup) (d : Driver) (v : Side) (b : ℕ) (es : List Counted) → (hand_buffer u d v b es).side.steps ≤ v.steps + 1
hand_steps u d v b es = by_hand (λ (z : Side). z.steps ≤ v.steps + 1) v b (buffer_batch u d.at b (pair_handed d.pair b) es) (omega arith) (omega arith)

hand_active_steps : (u : Setup) (d : Driver) (v : Side) (a : Option (List Counted)) → (hand_active u d v a).side.steps ≤ v.steps + 1
hand_active_steps u d v None = omega arith
hand_active_steps u d v (Some es) = hand_steps u d v d.pair.active_number es

write_steps : (u : Setup) (y : World) (k : Key) (p : Pace) (a : Option (List Counted)) → Within y.side 1 (write u y k p a)
write_steps u y k Free None = omega arith
write_steps u y k Exact None = omega arith
write_steps u y k p (Some es) =
    let d = take_next y.driver k y.driver.table in
    let full = es ++ entry_to_write k y.driver.table ∷ [] in
    cond_both (leb u.size (length full)) (hand_buffer u d y.side d.pair.active_number full) (record { driver = record d { pair = record d.pair { active = Some full } }; side = y.side })
    (λ (z : World). z.side.steps ≤ y.side.steps + 1) (λ e. hand_steps u d y.side d.pair.active_number full) (λ e. omega arith)

find_steps : (h : Two) (d : Driver) (v : Side) (a : Option (List Counted)) → (find_buffer h d v a).side.steps ≤ v.steps + 2
find_steps h d v (Some es) = omega arith
find_steps h d v None =
    let b = d.pair.next in let v1 = side_look_buffer v b (word_at h b) in
    cond_both (is_even (word_at h b)) (record { driver = activate d b; side = v1 }) (look_other h d v1 (other b))
    (λ (z : World). z.side.steps ≤ v.steps + 2)
    (λ e. omega (arith, look_steps v b (word_at h b)))
    (λ e. omega (arith, look_steps v b (word_at h b), look_steps v1 (other b) (word_at h (other b))))

sample_steps : (u : Setup) (h : Two) (x : World) (k : Key) → Within x.side 3 (take_sample u h x k)
sample_steps u h x k =
    let y = find_buffer h x.driver x.side x.driver.pair.active in
    cond_both (needs_write k x.driver.table) (write_sample u h x k) (ends_with (record { driver = take_next x.driver k x.driver.table; side = x.side }) Took)
    (Within x.side 3)
    (λ e. omega (arith, write_steps u y k u.pace y.driver.pair.active, find_steps h x.driver x.side x.driver.pair.active))
    (λ e. omega arith)

next_steps : (u : Setup) (h : Two) (w : ℕ) (x : World) (l : List Marked) → Within x.side 3 (next_sample u h w x l)
next_steps u h w x [] = omega arith
next_steps u h w x (s ∷ rest) =
    cond_both (ltb (w / 2) s.mark) (ends_with x Held) (take_sample u h x s.key) (Within x.side 3) (λ e. omega arith) (λ e. sample_steps u h x s.key)

answer_steps : (u : Setup) (x : World) (w : ℕ) (o : Option Table) → Within x.side 3 (answer_with u x w o)
answer_steps u x w None = omega arith
answer_steps u x w (Some t) = omega (arith, hand_active_steps u x.driver x.side x.driver.pair.active)

regain_steps : (d : Driver) (v : Side) (n : ℕ) (o : Option Table) → (regain d v n o).side.steps ≤ v.steps + 1
regain_steps d v n None = omega arith
regain_steps d v n (Some t) = omega arith

-- a turn makes at most five calls
pub few_steps : (u : Setup) (h : Words) (x : World) → Within x.side 5 (turn_of u h x)
few_steps u h x =
    let y = regain x.driver (side_hear x.side h.bell) h.third x.driver.table in
    cond_both x.driver.done (ends_with x Done) (after_regain u h y) (Within x.side 5)
    (λ e. omega arith)
    (λ e. cond_both (answers_now u y.driver h.bell) (answer_with u y h.bell y.driver.table) (next_sample u h.two h.bell y (drop y.driver.at u.samples)) (Within x.side 5)
    (λ a. omega (arith, regain_steps x.driver (side_hear x.side h.bell) h.third x.driver.table, answer_steps u y h.bell y.driver.table))
    (λ a. omega (arith, regain_steps x.driver (side_hear x.side h.bell) h.third x.driver.table, next_steps u h.two h.bell y (drop y.driver.at u.samples))))
