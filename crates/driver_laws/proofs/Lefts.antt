use Rattle.std.proofs.Common.{◌≡◌, ℕ, ◌/◌, List, [], ◌∷◌, ◌++◌, length, drop, refl, sym, ◌∙◌, subst, false, Some, None, Option, leb, ltb}
use Rattle.std.proofs.lemmas.Bool.{cond_both, cond-false}
use Rattle.sample_key.specs.Counted.{Counted}
use Rattle.sample_key.specs.declared.keys.Key.{Key}
use Rattle.sample_key.specs.declared.keys.Marked.{Marked}
use Rattle.sample_key.specs.declared.losses.Pace.{Pace}
use Rattle.sample_key.specs.declared.losses.Pace.TheVariants.{Free, Exact}
use Rattle.driver_model.specs.Table.{Table}
use Rattle.driver_model.specs.Sides.{Side, is_even, side_hear, side_look_buffer}
use Rattle.driver_model.specs.Driver.{buffer_batch, Two, Words, ends_with, regain, hand_active, answer_with, other, word_at, look_other, find_buffer, push, write, write_sample, take_sample, next_sample, after_regain, turn_of, Setup, Driver, World, Turned, take_next, entry_to_write, needs_write, activate, pair_handed, hand_buffer, hand_table, answers_now}
use Rattle.driver_model.specs.declared.answers.Turn.TheVariants.{Took, Held, Done}
use Rattle.driver_laws.specs.Turns.{HearsOnce}
use Rattle.driver_laws.proofs.Looks.{by_hand, by_look}

-- what the calls of a turn leave after the bell was heard and the table looked for
pub record LeavesBell (v w : Side) : Type 0 where
  pub hears : w.hears ≡ v.hears
  pub heard : w.heard ≡ v.heard
  pub buckets : w.buckets ≡ v.buckets
  pub buffer : w.buffer ≡ v.buffer
  pub read : w.third.read ≡ v.third.read
  pub tries : w.third.tries ≡ v.third.tries

same_left : (v : Side) → LeavesBell v v
same_left v = record { hears = refl; heard = refl; buckets = refl; buffer = refl; read = refl; tries = refl }

two_left : (v w x : Side) → LeavesBell v w → LeavesBell w x → LeavesBell v x
two_left v w x a b = record { hears = b.hears ∙ a.hears; heard = b.heard ∙ a.heard; buckets = b.buckets ∙ a.buckets; buffer = b.buffer ∙ a.buffer; read = b.read ∙ a.read; tries = b.tries ∙ a.tries }

hand_left : (u : Setup) (d : Driver) (v : Side) (b : ℕ) (es : List Counted) → LeavesBell v (hand_buffer u d v b es).side
hand_left u d v b es =
    by_hand (LeavesBell v) v b (buffer_batch u d.at b (pair_handed d.pair b) es) (record { hears = refl; heard = refl; buckets = refl; buffer = refl; read = refl; tries = refl }) (record { hears = refl; heard = refl; buckets = refl; buffer = refl; read = refl; tries = refl })

-- a look at a buffer
pub look_left : (v : Side) (b w : ℕ) → LeavesBell v (side_look_buffer v b w)
look_left v b w =
    by_look (LeavesBell v) v b w (record { hears = refl; heard = refl; buckets = refl; buffer = refl; read = refl; tries = refl }) (record { hears = refl; heard = refl; buckets = refl; buffer = refl; read = refl; tries = refl })

table_left : (u : Setup) (d : Driver) (v : Side) (w : ℕ) (t : Table) → LeavesBell v (hand_table u d v w t).side
table_left u d v w t = record { hears = refl; heard = refl; buckets = refl; buffer = refl; read = refl; tries = refl }

active_left : (u : Setup) (d : Driver) (v : Side) (a : Option (List Counted)) → LeavesBell v (hand_active u d v a).side
active_left u d v None = same_left v
active_left u d v (Some es) = hand_left u d v d.pair.active_number es

push_left : (u : Setup) (y : World) (k : Key) (es : List Counted) → LeavesBell y.side (push u y k es).side
push_left u y k es =
    let d = take_next y.driver k y.driver.table in
    let full = es ++ entry_to_write k y.driver.table ∷ [] in
    cond_both (leb u.size (length full)) (hand_buffer u d y.side d.pair.active_number full) (record { driver = record d { pair = record d.pair { active = Some full } }; side = y.side })
    (λ (z : World). LeavesBell y.side z.side) (λ e. hand_left u d y.side d.pair.active_number full) (λ e. same_left y.side)

write_left : (u : Setup) (y : World) (k : Key) (p : Pace) (a : Option (List Counted)) → LeavesBell y.side (write u y k p a).side
write_left u y k Free None = same_left y.side
write_left u y k Exact None = same_left y.side
write_left u y k p (Some es) = push_left u y k es

find_left : (h : Two) (d : Driver) (v : Side) (a : Option (List Counted)) → LeavesBell v (find_buffer h d v a).side
find_left h d v (Some es) = same_left v
find_left h d v None =
    let b = d.pair.next in let v1 = side_look_buffer v b (word_at h b) in
    cond_both (is_even (word_at h b)) (record { driver = activate d b; side = v1 }) (look_other h d v1 (other b))
    (λ (z : World). LeavesBell v z.side)
    (λ e. look_left v b (word_at h b))
    (λ e. two_left v v1 (side_look_buffer v1 (other b) (word_at h (other b))) (look_left v b (word_at h b)) (look_left v1 (other b) (word_at h (other b))))

sample_left : (u : Setup) (h : Two) (x : World) (k : Key) → LeavesBell x.side (take_sample u h x k).side
sample_left u h x k =
    let y = find_buffer h x.driver x.side x.driver.pair.active in
    cond_both (needs_write k x.driver.table) (write_sample u h x k) (ends_with (record { driver = take_next x.driver k x.driver.table; side = x.side }) Took)
    (λ (t : Turned). LeavesBell x.side t.side)
    (λ e. two_left x.side y.side (write_sample u h x k).side (find_left h x.driver x.side x.driver.pair.active) (write_left u y k u.pace y.driver.pair.active))
    (λ e. same_left x.side)

next_left : (u : Setup) (h : Two) (w : ℕ) (x : World) (l : List Marked) → LeavesBell x.side (next_sample u h w x l).side
next_left u h w x [] = same_left x.side
next_left u h w x (s ∷ rest) =
    cond_both (ltb (w / 2) s.mark) (ends_with x Held) (take_sample u h x s.key) (λ (t : Turned). LeavesBell x.side t.side) (λ e. same_left x.side) (λ e. sample_left u h x s.key)

answer_left : (u : Setup) (x : World) (w : ℕ) (o : Option Table) → LeavesBell x.side (answer_with u x w o).side
answer_left u x w None = same_left x.side
answer_left u x w (Some t) =
    let y = hand_active u x.driver x.side x.driver.pair.active in
    two_left x.side y.side (hand_table u y.driver y.side w t).side (active_left u x.driver x.side x.driver.pair.active) (table_left u y.driver y.side w t)

-- what the turn leaves after the table was looked for
pub after_left : (u : Setup) (h : Words) (y : World) → LeavesBell y.side (after_regain u h y).side
after_left u h y =
    cond_both (answers_now u y.driver h.bell) (answer_with u y h.bell y.driver.table) (next_sample u h.two h.bell y (drop y.driver.at u.samples)) (λ (t : Turned). LeavesBell y.side t.side)
    (λ a. answer_left u y h.bell y.driver.table)
    (λ a. next_left u h.two h.bell y (drop y.driver.at u.samples))

regain_hears : (d : Driver) (v : Side) (n : ℕ) (o : Option Table)
    → ((regain d v n o).side.hears ≡ v.hears) × ((regain d v n o).side.heard ≡ v.heard) × ((regain d v n o).side.buckets ≡ v.buckets) × ((regain d v n o).side.buffer ≡ v.buffer)
regain_hears d v n None = (refl, refl, refl, refl)
regain_hears d v n (Some t) = (refl, refl, refl, refl)

-- a turn hears the bell once and leaves the sizes
pub hears_turn : (u : Setup) (h : Words) (d : Driver) (v : Side) → d.done ≡ false → HearsOnce v (turn_of u h (record { driver = d; side = v })).side h.bell
hears_turn u h d v going =
    let y = regain d (side_hear v h.bell) h.third d.table in
    let r = regain_hears d (side_hear v h.bell) h.third d.table in
    let l = after_left u h y in
    subst (λ (t : Turned). HearsOnce v t.side h.bell) (sym (cond-false d.done (ends_with (record { driver = d; side = v }) Done) (after_regain u h y) going))
    (record { hears = l.hears ∙ r.0; heard = l.heard ∙ r.1; buckets = l.buckets ∙ r.2; buffer = l.buffer ∙ r.3 })
