-- A turn gives no sample back, and at the free pace it gets on, along the definition of the turn.
use Rattle.std.proofs.Common.{◌≡◌, ℕ, zero, suc, ◌+◌, ◌/◌, ◌%◌, ◌<◌, ◌≤◌, List, [], ◌∷◌, ◌++◌, length, drop, refl, sym, ◌∙◌, ap, subst, arith, inl, inr, Bool, true, false, Some, None, Option, leb, ltb, eqb, ◌&&◌, ltb-true, ltb-false, leb-false, eqb-true, eq-eqb}
use Rattle.std.specs.Prelude.{is_some, not, ◌||◌, ◌⊎◌}
use Rattle.std.proofs.lemmas.Bool.{cond_both, cond-false}
use Rattle.sample_key.specs.Counted.{Counted}
use Rattle.sample_key.specs.Sent.{Sent}
use Rattle.sample_key.specs.Marks.{MarksUpTo}
use Rattle.sample_key.specs.declared.keys.Key.{Key}
use Rattle.sample_key.specs.declared.keys.Marked.{Marked}
use Rattle.sample_key.specs.declared.losses.Pace.{Pace}
use Rattle.sample_key.specs.declared.losses.Pace.TheVariants.{Free, Exact}
use Rattle.driver_model.specs.Table.{Table, empty_table}
use Rattle.driver_model.specs.Sides.{Side, is_even, side_hear, side_look_table, side_look_buffer}
use Rattle.driver_model.specs.Driver.{Setup, Driver, World, Two, Words, Turned, ends_with, regain, pair_handed, buffer_batch, table_batch, hand_buffer, hand_active, answer_with, answers_now, may_answer, take_next, entry_to_write, needs_write, activate, other, word_at, look_other, find_buffer, push, write, write_sample, take_sample, next_sample, after_regain, turn_of}
use Rattle.driver_model.specs.Invariant.{IsSetup}
use Rattle.driver_model.specs.declared.answers.Turn.TheVariants.{Took, Held, Done}
use Rattle.driver_laws.proofs.Lists.{none_left}
use Rattle.driver_laws.specs.Doings.{GetsOn}
use Rattle.driver_laws.proofs.Looks.{by_hand}

-- the next sample was taken
taken_at : (d : Driver) (k : Key) (o : Option Table) → (take_next d k o).at ≡ d.at + 1
taken_at d k None = refl
taken_at d k (Some t) = refl

push_at : (u : Setup) (y : World) (k : Key) (es : List Counted) → (push u y k es).driver.at ≡ y.driver.at + 1
push_at u y k es =
    let d = take_next y.driver k y.driver.table in
    let full = es ++ entry_to_write k y.driver.table ∷ [] in
    cond_both (leb u.size (length full)) (hand_buffer u d y.side d.pair.active_number full) (record { driver = record d { pair = record d.pair { active = Some full } }; side = y.side })
    (λ (z : World). z.driver.at ≡ y.driver.at + 1) (λ e. taken_at y.driver k y.driver.table) (λ e. taken_at y.driver k y.driver.table)

-- looking for a buffer takes no sample
found_at : (h : Two) (d : Driver) (v : Side) (a : Option (List Counted)) → (find_buffer h d v a).driver.at ≡ d.at
found_at h d v (Some es) = refl
found_at h d v None =
    let b = d.pair.next in let v1 = side_look_buffer v b (word_at h b) in let c = other b in
    cond_both (is_even (word_at h b)) (record { driver = activate d b; side = v1 }) (look_other h d v1 c) (λ (z : World). z.driver.at ≡ d.at)
    (λ e. refl) (λ e. cond_both (is_even (word_at h c)) (activate d c) d (λ (z : Driver). z.at ≡ d.at) (λ f. refl) (λ f. refl))

-- a write takes or loses the sample, or holds it
write_later : (u : Setup) (y : World) (k : Key) (p : Pace) (a : Option (List Counted)) → y.driver.at ≤ (write u y k p a).driver.at
write_later u y k p (Some es) = omega (arith, push_at u y k es)
write_later u y k Free None = omega arith
write_later u y k Exact None = omega arith

-- at the free pace it is never held
write_at : (u : Setup) (y : World) (k : Key) (p : Pace) (a : Option (List Counted)) → p ≡ Free → (write u y k p a).driver.at ≡ y.driver.at + 1
write_at u y k p (Some es) free = push_at u y k es
write_at u y k Free None free = refl
write_at u y k Exact None free = cc

sample_later : (u : Setup) (h : Two) (x : World) (k : Key) → x.driver.at ≤ (take_sample u h x k).driver.at
sample_later u h x k =
    let y = find_buffer h x.driver x.side x.driver.pair.active in
    cond_both (needs_write k x.driver.table) (write_sample u h x k) (ends_with (record { driver = take_next x.driver k x.driver.table; side = x.side }) Took)
    (λ (t : Turned). x.driver.at ≤ t.driver.at)
    (λ e. omega (arith, write_later u y k u.pace y.driver.pair.active, found_at h x.driver x.side x.driver.pair.active))
    (λ e. omega (arith, taken_at x.driver k x.driver.table))

sample_at : (u : Setup) (h : Two) (x : World) (k : Key) → u.pace ≡ Free → (take_sample u h x k).driver.at ≡ x.driver.at + 1
sample_at u h x k free =
    let y = find_buffer h x.driver x.side x.driver.pair.active in
    cond_both (needs_write k x.driver.table) (write_sample u h x k) (ends_with (record { driver = take_next x.driver k x.driver.table; side = x.side }) Took)
    (λ (t : Turned). t.driver.at ≡ x.driver.at + 1)
    (λ e. omega (arith, write_at u y k u.pace y.driver.pair.active free, found_at h x.driver x.side x.driver.pair.active))
    (λ e. taken_at x.driver k x.driver.table)

next_later : (u : Setup) (h : Two) (w : ℕ) (x : World) (l : List Marked) → x.driver.at ≤ (next_sample u h w x l).driver.at
next_later u h w x [] = omega arith
next_later u h w x (s ∷ rest) =
    cond_both (ltb (w / 2) s.mark) (ends_with x Held) (take_sample u h x s.key) (λ (t : Turned). x.driver.at ≤ t.driver.at) (λ e. omega arith) (λ e. sample_later u h x s.key)

-- handing the active buffer takes no sample and leaves the table's cell
active_at : (u : Setup) (d : Driver) (v : Side) (a : Option (List Counted)) → (hand_active u d v a).driver.at ≡ d.at
active_at u d v None = refl
active_at u d v (Some es) = refl

active_third : (u : Setup) (d : Driver) (v : Side) (a : Option (List Counted)) → (hand_active u d v a).side.third.handed ≡ v.third.handed
active_third u d v None = refl
active_third u d v (Some es) =
    let b = d.pair.active_number in
    by_hand (λ (z : Side). z.third.handed ≡ v.third.handed) v b (buffer_batch u d.at b (pair_handed d.pair b) es) refl refl

answer_later : (u : Setup) (x : World) (w : ℕ) (o : Option Table) → x.driver.at ≤ (answer_with u x w o).driver.at
answer_later u x w None = omega arith
answer_later u x w (Some t) = omega (arith, active_at u x.driver x.side x.driver.pair.active)

-- looking for the table takes no sample, answers nothing and leaves the batches handed
record Regained (d : Driver) (v : Side) (y : World) : Type 0 where
  at : y.driver.at ≡ d.at
  answered : y.driver.answered ≡ d.answered
  third : y.side.third.handed ≡ v.third.handed

regained : (d : Driver) (v : Side) (w : ℕ) (o : Option Table) → Regained d v (regain d v w o)
regained d v w (Some t) = record { at = refl; answered = refl; third = refl }
regained d v w None =
    cond_both (is_even w) (record d { table = Some (empty_table v.buckets v.turn) }) d (λ (e : Driver). Regained d v (record { driver = e; side = side_look_table v w }))
    (λ e. record { at = refl; answered = refl; third = refl }) (λ e. record { at = refl; answered = refl; third = refl })

-- a turn gives no sample back
pub turn_goes_on : (u : Setup) (h : Words) (x : World) → x.driver.at ≤ (turn_of u h x).driver.at
turn_goes_on u h x =
    let y = regain x.driver (side_hear x.side h.bell) h.third x.driver.table in
    let r : Regained x.driver (side_hear x.side h.bell) y = regained x.driver (side_hear x.side h.bell) h.third x.driver.table in
    cond_both x.driver.done (ends_with x Done) (after_regain u h y) (λ (t : Turned). x.driver.at ≤ t.driver.at)
    (λ e. omega arith)
    (λ e. cond_both (answers_now u y.driver h.bell) (answer_with u y h.bell y.driver.table) (next_sample u h.two h.bell y (drop y.driver.at u.samples)) (λ (t : Turned). x.driver.at ≤ t.driver.at)
    (λ a. omega (arith, r.at, answer_later u y h.bell y.driver.table))
    (λ a. omega (arith, r.at, next_later u h.two h.bell y (drop y.driver.at u.samples))))

-- the table is held after the look, where it was or came back
some_regained : (d : Driver) (v : Side) (w : ℕ) (o : Option Table) → d.table ≡ o → (is_some d.table ≡ true) ⊎ (is_even w ≡ true) → is_some (regain d v w o).driver.table ≡ true
some_regained d v w (Some t) held back = ap (λ (z : Option Table). is_some z) held
some_regained d v w None held (inl some) = let e : false ≡ true = sym (ap (λ (z : Option Table). is_some z) held) ∙ some in cc
some_regained d v w None held (inr even) =
    cond_both (is_even w) (record d { table = Some (empty_table v.buckets v.turn) }) d (λ (e : Driver). is_some e.table ≡ true)
    (λ e. refl) (λ odd. let e : true ≡ false = sym even ∙ odd in cc)

-- why an answer is not given, where the value is odd and the table is held
why_not : (a b c m : Bool) → a ≡ true → c ≡ true → (a && b && c && m) ≡ false → (b ≡ false) ⊎ (m ≡ false)
why_not true false c m ea ec e = inl refl
why_not true true true m ea ec e = inr e
why_not true true false m ea ec e = cc
why_not false b c m ea ec e = cc

close_only : (a b : Bool) → (not a || b) ≡ false → (a ≡ true) × (b ≡ false)
close_only true b e = (refl, e)
close_only false b e = cc

may_not : (u : Setup) (d : Driver) (w : ℕ) (p : Pace) → p ≡ Free → may_answer u d w p ≡ false → (eqb w u.last ≡ true) × (leb (length u.samples) d.at ≡ false)
may_not u d w Free free e = close_only (eqb w u.last) (leb (length u.samples) d.at) e
may_not u d w Exact free e = cc

-- the mark of the next sample
mark_within : (m n : ℕ) (ss : List Marked) (s : Marked) (rest : List Marked) → MarksUpTo m ss → drop n ss ≡ s ∷ rest → s.mark ≤ m
mark_within m zero [] s rest h e = cc
mark_within m (suc n) [] s rest h e = cc
mark_within m zero (x ∷ ss) s rest h e = let f : x ≡ s = cc in omega (arith, h.0, ap (λ (z : Marked). z.mark) f)
mark_within m (suc n) (x ∷ ss) s rest h e = mark_within m n ss s rest h.1 e

module _ (u : Setup) (h : Words) (d : Driver) (v : Side) (y : World) (r : Regained d v y) where
  -- the value is answered now
  answers_on : (o : Option Table) → is_some o ≡ true → GetsOn h.bell d v (answer_with u y h.bell o)
  answers_on None some = cc
  answers_on (Some t) some =
      let z = hand_active u y.driver y.side y.driver.pair.active in
      let x : Sent = table_batch u z.driver h.bell t in
      inr (inl (x, ap (λ (l : List Sent). l ++ x ∷ []) (active_third u y.driver y.side y.driver.pair.active ∙ r.third), refl))

  -- the next sample is taken or lost
  next_on : (l : List Marked) → IsSetup u → u.pace ≡ Free → h.bell ≡ u.last → y.driver.at < length u.samples → drop y.driver.at u.samples ≡ l → GetsOn h.bell d v (next_sample u h.two h.bell y l)
  next_on [] setup free close more left = absurd (omega (arith, none_left y.driver.at u.samples left))
  next_on (s ∷ rest) setup free close more left =
      let mark : s.mark ≤ u.last / 2 = mark_within (u.last / 2) y.driver.at u.samples s rest setup.due left in
      cond_both (ltb (h.bell / 2) s.mark) (ends_with y Held) (take_sample u h.two y s.key) (GetsOn h.bell d v)
      (λ later. absurd (omega (arith, ltb-true (h.bell / 2) s.mark later, ap (λ (n : ℕ). n / 2) close)))
      (λ is_due. inr (inr (omega (arith, r.at, sample_at u h.two y s.key free))))

  after_on : IsSetup u → u.pace ≡ Free → h.bell % 2 ≡ 1 → is_some y.driver.table ≡ true → GetsOn h.bell d v (after_regain u h y)
  after_on setup free odd some =
      cond_both (answers_now u y.driver h.bell) (answer_with u y h.bell y.driver.table) (next_sample u h.two h.bell y (drop y.driver.at u.samples)) (GetsOn h.bell d v)
      (λ answers. answers_on y.driver.table some)
      (λ none. elim (why_not (eqb (h.bell % 2) 1) (ltb y.driver.answered h.bell) (is_some y.driver.table) (may_answer u y.driver h.bell u.pace) (eq-eqb (h.bell % 2) 1 odd) some none) [
        | inl before ↦ inl (omega (arith, ltb-false y.driver.answered h.bell before, r.answered))
        | inr not_yet ↦
            let c = may_not u y.driver h.bell u.pace free not_yet in
            next_on (drop y.driver.at u.samples) setup free (eqb-true h.bell u.last c.0) (leb-false (length u.samples) y.driver.at c.1) refl
      ])

-- at the free pace a turn gets on
pub turn_gets_on : (u : Setup) (h : Words) (d : Driver) (v : Side) → IsSetup u → u.pace ≡ Free → h.bell % 2 ≡ 1 → d.done ≡ false
    → (is_some d.table ≡ true) ⊎ (is_even h.third ≡ true) → GetsOn h.bell d v (turn_of u h (record { driver = d; side = v }))
turn_gets_on u h d v setup free odd going back =
    let v1 = side_hear v h.bell in let y = regain d v1 h.third d.table in
    let r : Regained d v1 y = regained d v1 h.third d.table in
    subst (GetsOn h.bell d v) (sym (cond-false d.done (ends_with (record { driver = d; side = v }) Done) (after_regain u h y) going))
    (after_on u h d v y (record { at = r.at; answered = r.answered; third = r.third }) setup free odd (some_regained d v1 h.third d.table refl back))
