use Rattle.std.proofs.Common.{◌≡◌, ℕ, ◌+◌, ◌/◌, ◌%◌, ◌≤◌, List, [], ◌∷◌, ◌++◌, length, drop, refl, sym, ◌∙◌, ap, subst, inl, inr, true, false, Some, None, Option, leb, ltb, eqb, ◌&&◌, ltb-true, ltb-false, eqb-true, eq-eqb}
use Rattle.std.specs.Prelude.{is_some}
use Rattle.std.proofs.lemmas.Bool.{cond_both, cond-true, cond-false, both_ways, and_parts}
use Rattle.sample_key.specs.Counted.{Counted}
use Rattle.sample_key.specs.declared.keys.Key.{Key}
use Rattle.sample_key.specs.declared.keys.Marked.{Marked}
use Rattle.sample_key.specs.declared.losses.Pace.{Pace}
use Rattle.sample_key.specs.declared.losses.Pace.TheVariants.{Free, Exact}
use Rattle.driver_model.specs.Table.{Table, empty_table}
use Rattle.driver_model.specs.Sides.{Side, is_even, side_hear, side_look_table, side_look_buffer}
use Rattle.driver_model.specs.Driver.{buffer_batch, Two, Words, ends_with, regain, hand_active, answer_with, find_buffer, push, write, write_sample, take_sample, next_sample, after_regain, turn_of, Setup, Driver, World, Turned, take_next, entry_to_write, needs_write, activate, pair_handed, hand_buffer, hand_table, may_answer, answers_now}
use Rattle.driver_model.specs.declared.answers.Turn.TheVariants.{Took, Held, Answered, Done}
use Rattle.driver_laws.specs.Causes.{table_after, with_table, HasBuffer, CauseAt, CauseOf}
use Rattle.driver_laws.proofs.Lists.{odd_of}
use Rattle.driver_laws.proofs.Looks.{by_hand, look_ends}
use Rattle.driver_laws.proofs.Lefts.{after_left, hears_turn}

-- the causes, along the definition of the turn

-- what a push leaves of the words of the buffers
abbrev Words4 : Side → Side → Type 0
Words4 v w = (w.first.tries ≡ v.first.tries) × (w.first.read ≡ v.first.read) × (w.second.tries ≡ v.second.tries) × (w.second.read ≡ v.second.read)

hand_words : (u : Setup) (d : Driver) (v : Side) (b : ℕ) (es : List Counted) → Words4 v (hand_buffer u d v b es).side
hand_words u d v b es =
    by_hand (Words4 v) v b (buffer_batch u d.at b (pair_handed d.pair b) es) (refl, refl, refl, refl) (refl, refl, refl, refl)

push_words : (u : Setup) (y : World) (k : Key) (es : List Counted) → Words4 y.side (push u y k es).side
push_words u y k es =
    let d = take_next y.driver k y.driver.table in
    let full = es ++ entry_to_write k y.driver.table ∷ [] in
    cond_both (leb u.size (length full)) (hand_buffer u d y.side d.pair.active_number full) (record { driver = record d { pair = record d.pair { active = Some full } }; side = y.side })
    (λ (z : World). Words4 y.side z.side) (λ e. hand_words u d y.side d.pair.active_number full) (λ e. (refl, refl, refl, refl))

-- the word of a buffer that is back
even_of : (w : ℕ) → is_even w ≡ true → w % 2 ≡ 0
even_of w h = eqb-true (w % 2) 0 h

module _ (u : Setup) (d : Driver) (v : Side) (n : ℕ) (s : Marked) (rest : List Marked) (none : answers_now u d n ≡ false) (left : drop d.at u.samples ≡ s ∷ rest)
    (mark : s.mark ≤ n / 2) (needs : needs_write s.key d.table ≡ true) where
  -- what a write has to show
  abbrev Caused : World → Type 0
  Caused y = CauseAt u d v (write u y s.key u.pace y.driver.pair.active).side n (write u y s.key u.pace y.driver.pair.active).answer

  -- a buffer was there
  took_it : (w : Side) → HasBuffer d v w → CauseAt u d v w n Took
  took_it w h = (none, (s, (rest, left), (mark, inr (needs, h))))

  -- none was there
  none_there : (w : Side) (p : Pace) → u.pace ≡ p → w.first.tries ≡ v.first.tries + 1 → w.second.tries ≡ v.second.tries + 1 → w.first.read % 2 ≡ 1 → w.second.read % 2 ≡ 1
      → d.pair.active ≡ None → CauseAt u d v (write u (record { driver = d; side = w }) s.key p None).side n (write u (record { driver = d; side = w }) s.key p None).answer
  none_there w Free pace a b e f active = (none, (s, (rest, left), ((mark, needs, pace, (active, a, b, e, f)), refl)))
  none_there w Exact pace a b e f active = (none, (s, (rest, left), inr (mark, needs, pace, (active, a, b, e, f))))

  -- one came back
  back0 : (x : Side) → is_even x.first.read ≡ true → x.first.tries ≡ v.first.tries + 1 → Caused (record { driver = activate d 0; side = x })
  back0 x even tries =
      let w = push_words u (record { driver = activate d 0; side = x }) s.key [] in
      took_it (push u (record { driver = activate d 0; side = x }) s.key []).side (inr (inl (w.0 ∙ tries, ap (λ (m : ℕ). m % 2) w.1 ∙ even_of x.first.read even)))

  back1 : (x : Side) → is_even x.second.read ≡ true → x.second.tries ≡ v.second.tries + 1 → Caused (record { driver = activate d 1; side = x })
  back1 x even tries =
      let w = push_words u (record { driver = activate d 1; side = x }) s.key [] in
      took_it (push u (record { driver = activate d 1; side = x }) s.key []).side (inr (inr (w.2 ∙ tries, ap (λ (m : ℕ). m % 2) w.3 ∙ even_of x.second.read even)))

  -- the sample was written, lost or held
  write_cause : (h : Two) (a : Option (List Counted)) → d.pair.active ≡ a → d.pair.next ≤ 1 → Caused (find_buffer h d v a)
  write_cause h (Some es) active next =
      subst (λ (a : Option (List Counted)). CauseAt u d v (write u (record { driver = d; side = v }) s.key u.pace a).side n (write u (record { driver = d; side = v }) s.key u.pace a).answer) (sym active)
      (took_it (push u (record { driver = d; side = v }) s.key es).side (inl (ap (λ (z : Option (List Counted)). is_some z) active)))
  write_cause h None active next =
      let v0 = side_look_buffer v 0 h.first in let v1 = side_look_buffer v 1 h.second in let both = side_look_buffer v0 1 h.second in
      look_ends Caused h d v d.pair.next next (λ even. back0 v0 even refl) (λ even. back1 v1 even refl)
      (λ odd even. back1 both even refl) (λ odd even. back0 (side_look_buffer v1 0 h.first) even refl)
      (λ odd0 odd1. subst (λ (a : Option (List Counted)). CauseAt u d v (write u (record { driver = d; side = both }) s.key u.pace a).side n (write u (record { driver = d; side = both }) s.key u.pace a).answer) (sym active)
      (none_there both u.pace refl refl refl (odd_of h.first odd0) (odd_of h.second odd1) active))

-- the turn went on with the samples that were left
next_cause : (u : Setup) (h : Two) (d : Driver) (v : Side) (n : ℕ) (l : List Marked) → answers_now u d n ≡ false → drop d.at u.samples ≡ l → d.pair.next ≤ 1
    → CauseAt u d v (next_sample u h n (record { driver = d; side = v }) l).side n (next_sample u h n (record { driver = d; side = v }) l).answer
next_cause u h d v n [] none left next = (none, left)
next_cause u h d v n (s ∷ rest) none left next =
    let x : World = record { driver = d; side = v } in
    cond_both (ltb (n / 2) s.mark) (ends_with x Held) (take_sample u h x s.key) (λ (t : Turned). CauseAt u d v t.side n t.answer)
    (λ later. (none, (s, (rest, left), inl (ltb-true (n / 2) s.mark later))))
    (λ is_due. let mark : s.mark ≤ n / 2 = ltb-false (n / 2) s.mark is_due in
    cond_both (needs_write s.key d.table) (write_sample u h x s.key) (ends_with (record { driver = take_next d s.key d.table; side = v }) Took) (λ (t : Turned). CauseAt u d v t.side n t.answer)
    (λ needs. write_cause u d v n s rest none left mark needs h d.pair.active refl next)
    (λ fits. (none, (s, (rest, left), (mark, inl fits)))))

-- a flush was answered
answer_cause : (u : Setup) (d : Driver) (v : Side) (n : ℕ) (o : Option Table) → d.table ≡ o → answers_now u d n ≡ true
    → CauseAt u d v (answer_with u (record { driver = d; side = v }) n o).side n (answer_with u (record { driver = d; side = v }) n o).answer
answer_cause u d v n None held answers =
    let p = and_parts (eqb (n % 2) 1 && ltb d.answered n && is_some d.table) (may_answer u d n u.pace) answers in
    let q = and_parts (eqb (n % 2) 1 && ltb d.answered n) (is_some d.table) p.0 in
    let e : false ≡ true = sym (ap (λ (z : Option Table). is_some z) held) ∙ q.1 in cc
answer_cause u d v n (Some t) held answers =
    let y = hand_active u d v d.pair.active in let w = (hand_table u y.driver y.side n t).side in
    cond_both (eqb n u.last) Done Answered (CauseAt u d v w n)
    (λ e. (answers, eqb-true n u.last e)) (λ e. (answers, (λ same. both_ways (eqb n u.last) e (eq-eqb n u.last same))))

-- the turn went on after the table was looked for
after_cause : (u : Setup) (h : Words) (d : Driver) (v : Side) → d.pair.next ≤ 1
    → CauseAt u d v (after_regain u h (record { driver = d; side = v })).side h.bell (after_regain u h (record { driver = d; side = v })).answer
after_cause u h d v next =
    let x : World = record { driver = d; side = v } in
    cond_both (answers_now u d h.bell) (answer_with u x h.bell d.table) (next_sample u h.two h.bell x (drop d.at u.samples)) (λ (t : Turned). CauseAt u d v t.side h.bell t.answer)
    (λ answers. answer_cause u d v h.bell d.table refl answers)
    (λ none. next_cause u h.two d v h.bell (drop d.at u.samples) none refl next)

-- by where the table was
regained_cause : (u : Setup) (h : Words) (d : Driver) (v : Side) (o : Option Table) → d.table ≡ o → d.pair.next ≤ 1
    → CauseAt u (record d { table = table_after o v (after_regain u h (regain d (side_hear v h.bell) h.third o)).side.third.read }) v
    (after_regain u h (regain d (side_hear v h.bell) h.third o)).side h.bell (after_regain u h (regain d (side_hear v h.bell) h.third o)).answer
regained_cause u h d v (Some t) held next =
    let r = after_regain u h (record { driver = d; side = side_hear v h.bell }) in
    subst (λ (e : Driver). CauseAt u e v r.side h.bell r.answer) (λ i. record d { table = held i }) (after_cause u h d (side_hear v h.bell) next)
regained_cause u h d v None held next =
    let w = side_look_table (side_hear v h.bell) h.third in let t = empty_table v.buckets v.turn in
    cond_both (is_even h.third) (record d { table = Some t }) d
    (λ (z : Driver). CauseAt u (record d { table = table_after None v (after_regain u h (record { driver = z; side = w })).side.third.read }) v
    (after_regain u h (record { driver = z; side = w })).side h.bell (after_regain u h (record { driver = z; side = w })).answer)
    (λ even.
    let y : World = record { driver = record d { table = Some t }; side = w } in let r = after_regain u h y in
    let read : is_even r.side.third.read ≡ true = ap (λ (m : ℕ). is_even m) (after_left u h y).read ∙ even in
    subst (λ (o : Option Table). CauseAt u (record d { table = o }) v r.side h.bell r.answer) (sym (cond-true (is_even r.side.third.read) (Some t) None read)) (after_cause u h (record d { table = Some t }) w next))
    (λ odd.
    let y : World = record { driver = d; side = w } in let r = after_regain u h y in
    let read : is_even r.side.third.read ≡ false = ap (λ (m : ℕ). is_even m) (after_left u h y).read ∙ odd in
    subst (λ (o : Option Table). CauseAt u (record d { table = o }) v r.side h.bell r.answer) (held ∙ sym (cond-false (is_even r.side.third.read) (Some t) None read)) (after_cause u h d w next))

-- the cause of what a turn answered
pub cause_turn : (u : Setup) (h : Words) (d : Driver) (v : Side) → d.pair.next ≤ 1
    → CauseOf u d v (turn_of u h (record { driver = d; side = v })).side (turn_of u h (record { driver = d; side = v })).answer
cause_turn u h d v next =
    let x : World = record { driver = d; side = v } in let r = after_regain u h (regain d (side_hear v h.bell) h.third d.table) in
    let t = turn_of u h x in
    record {
      closed = λ done. ap (λ (z : Turned). z.answer) (cond-true d.done (ends_with x Done) r done);
      going = λ going.
          let e : t ≡ r = cond-false d.done (ends_with x Done) r going in
          let g : CauseAt u (with_table d v r.side) v r.side h.bell r.answer = regained_cause u h d v d.table refl next in
          subst (λ (m : ℕ). CauseAt u (with_table d v t.side) v t.side m t.answer) (sym (hears_turn u h d v going).heard)
          (subst (λ (z : Turned). CauseAt u (with_table d v z.side) v z.side h.bell z.answer) (sym e) g);
    }
