-- What a turn did to the three cells, along the definition of the turn.
use Rattle.std.proofs.Common.{◌≡◌, ℕ, zero, suc, ◌/◌, ◌%◌, ◌<◌, ◌≤◌, List, [], ◌∷◌, ◌++◌, length, drop, refl, ◌∙◌, ap, arith, inl, inr, Bool, true, false, Some, None, Option, leb, ltb, eqb, ◌&&◌, ltb-true, eqb-true, eq-eqb}
use Rattle.std.specs.Prelude.{is_some}
use Rattle.std.proofs.lemmas.Bool.{cond_both, and_parts}
use Rattle.sample_key.specs.Counted.{Counted}
use Rattle.sample_key.specs.Sent.{Sent}
use Rattle.sample_key.specs.declared.keys.Key.{Key}
use Rattle.sample_key.specs.declared.keys.Marked.{Marked}
use Rattle.sample_key.specs.declared.losses.Pace.{Pace}
use Rattle.sample_key.specs.declared.losses.Pace.TheVariants.{Free, Exact}
use Rattle.driver_model.specs.Table.{Table, empty_table}
use Rattle.driver_model.specs.Sides.{Side, is_even, side_hear, side_look_table, side_look_buffer}
use Rattle.driver_model.specs.Driver.{Setup, Driver, World, Two, Words, Buffers, ends_with, regain, pair_handed, buffer_batch, table_batch, hand_buffer, hand_active, hand_table, answer_with, answers_now, may_answer, take_next, entry_to_write, needs_write, activate, other, word_at, look_other, find_buffer, push, lose, write, write_sample, take_sample, next_sample, after_regain, turn_of}
use Rattle.driver_model.specs.Invariant.{is_active}
use Rattle.driver_model.specs.declared.answers.Turn.TheVariants.{Took, Held, Done}
use Rattle.driver_laws.specs.Doings.{Taken, HandedNone, HandedOne, AnswersBell, CellDid, AnswersNothing, CellsDid, DidBy, IsTakenWhereHeld, IsTakenWhereEven, HasNumbers}

-- Nothing was handed so far: three cells that were left alone, the answer and the numbers.
record Near (taken : Taken) (answered : ℕ) (v0 : Side) (d : Driver) (v : Side) : Type 0 where
  first : HandedNone taken.first v0.first.handed v.first.handed (is_active d.pair 0)
  second : HandedNone taken.second v0.second.handed v.second.handed (is_active d.pair 1)
  third : HandedNone taken.third v0.third.handed v.third.handed (is_some d.table)
  answer : d.answered ≡ answered
  active : d.pair.active_number ≤ 1
  next : d.pair.next ≤ 1

-- A buffer may have been handed, the table was not.
record Half (cpu : ℕ) (taken : Taken) (answered : ℕ) (v0 : Side) (d : Driver) (v : Side) : Type 0 where
  first : CellDid cpu 0 AnswersNothing taken.first v0.first.handed v.first.handed (is_active d.pair 0)
  second : CellDid cpu 1 AnswersNothing taken.second v0.second.handed v.second.handed (is_active d.pair 1)
  third : HandedNone taken.third v0.third.handed v.third.handed (is_some d.table)
  answer : d.answered ≡ answered

-- the buffer of this number is the active one
active_is : (p : Buffers) (b : ℕ) → is_some p.active ≡ true → p.active_number ≡ b → is_active p b ≡ true
active_is p b some number = ap (λ (z : Bool). z && eqb p.active_number b) some ∙ eq-eqb p.active_number b number

-- one batch more was handed of a cell that was left alone so far
one_handed : (cpu cell : ℕ) (P : Sent → Type 0) (taken before after : List Sent) (held : Bool) (x : Sent) → HandedNone taken before after held → held ≡ true
    → x.note.cpu ≡ cpu → x.note.cell ≡ cell → P x → HandedOne cpu cell P taken before (after ++ x ∷ []) false
one_handed cpu cell P taken before after held x n holds cpu_is cell_is fact = record {
  batch = x;
  more = ap (λ (z : List Sent). z ++ x ∷ []) n.same;
  home = n.home holds;
  out = refl;
  cpu_is = cpu_is;
  cell_is = cell_is;
  fact = fact;
}

module _ (u : Setup) (bell answered : ℕ) (taken : Taken) (v0 : Side) where
  half_of : (d : Driver) (v : Side) → Near taken answered v0 d v → Half u.cpu taken answered v0 d v
  half_of d v n = record { first = inl n.first; second = inl n.second; third = n.third; answer = n.answer }

  did_of : (d : Driver) (v : Side) → Half u.cpu taken answered v0 d v → CellsDid u.cpu bell answered taken v0 d v
  did_of d v n = record { first = n.first; second = n.second; third = inl n.third }

  near_did : (d : Driver) (v : Side) → Near taken answered v0 d v → CellsDid u.cpu bell answered taken v0 d v
  near_did d v n = did_of d v (half_of d v n)

  -- the active buffer was handed
  half_hand : (d : Driver) (v : Side) (b : ℕ) (es : List Counted) → b ≤ 1 → is_some d.pair.active ≡ true → d.pair.active_number ≡ b → Near taken answered v0 d v
      → Half u.cpu taken answered v0 (hand_buffer u d v b es).driver (hand_buffer u d v b es).side
  half_hand d v zero es l some number n =
      record {
        first = inr (one_handed u.cpu 0 AnswersNothing taken.first v0.first.handed v.first.handed (is_active d.pair 0) (buffer_batch u d.at 0 (pair_handed d.pair 0) es) n.first (active_is d.pair 0 some number) refl refl refl);
        second = inl (record { same = n.second.same; home = λ e. cc });
        third = n.third;
        answer = n.answer;
      }
  half_hand d v (suc zero) es l some number n =
      record {
        first = inl (record { same = n.first.same; home = λ e. cc });
        second = inr (one_handed u.cpu 1 AnswersNothing taken.second v0.second.handed v.second.handed (is_active d.pair 1) (buffer_batch u d.at 1 (pair_handed d.pair 1) es) n.second (active_is d.pair 1 some number) refl refl refl);
        third = n.third;
        answer = n.answer;
      }
  half_hand d v (suc (suc b)) es l some number n = absurd (omega arith)

  half_active : (d : Driver) (v : Side) (a : Option (List Counted)) → d.pair.active ≡ a → Near taken answered v0 d v
      → Half u.cpu taken answered v0 (hand_active u d v a).driver (hand_active u d v a).side
  half_active d v None e n = half_of d v n
  half_active d v (Some es) e n = half_hand d v d.pair.active_number es n.active (ap (λ (z : Option (List Counted)). is_some z) e) refl n

  -- the table was handed
  did_table : (d : Driver) (v : Side) (t : Table) → is_some d.table ≡ true → bell % 2 ≡ 1 → answered < bell → Half u.cpu taken answered v0 d v
      → CellsDid u.cpu bell answered taken v0 (hand_table u d v bell t).driver (hand_table u d v bell t).side
  did_table d v t some odd above n =
      record {
        first = n.first;
        second = n.second;
        third = inr (one_handed u.cpu 2 (AnswersBell bell answered) taken.third v0.third.handed v.third.handed (is_some d.table) (table_batch u d bell t) n.third some refl refl (refl, odd, above));
      }

  -- handing the active buffer leaves the table
  same_table : (d : Driver) (v : Side) (a : Option (List Counted)) → (hand_active u d v a).driver.table ≡ d.table
  same_table d v None = refl
  same_table d v (Some es) = refl

  did_answer : (d : Driver) (v : Side) (o : Option Table) → d.table ≡ o → answers_now u d bell ≡ true → Near taken answered v0 d v
      → DidBy u bell answered taken v0 (answer_with u (record { driver = d; side = v }) bell o)
  did_answer d v None held answers n = near_did d v n
  did_answer d v (Some t) held answers n =
      let p = and_parts (eqb (bell % 2) 1 && ltb d.answered bell && is_some d.table) (may_answer u d bell u.pace) answers in
      let q = and_parts (eqb (bell % 2) 1 && ltb d.answered bell) (is_some d.table) p.0 in
      let r = and_parts (eqb (bell % 2) 1) (ltb d.answered bell) q.0 in
      let y = hand_active u d v d.pair.active in
      did_table y.driver y.side t (ap (λ (z : Option Table). is_some z) (same_table d v d.pair.active ∙ held))
      (eqb-true (bell % 2) 1 r.0) (omega (arith, ltb-true d.answered bell r.1, n.answer)) (half_active d v d.pair.active refl n)

  -- the next sample was taken
  near_taken : (d : Driver) (v : Side) (k : Key) (o : Option Table) → d.table ≡ o → Near taken answered v0 d v → Near taken answered v0 (take_next d k o) v
  near_taken d v k None held n = record { first = n.first; second = n.second; third = n.third; answer = n.answer; active = n.active; next = n.next }
  near_taken d v k (Some t) held n = record {
    first = n.first;
    second = n.second;
    third = record { same = n.third.same; home = λ e. n.third.home (ap (λ (z : Option Table). is_some z) held) };
    answer = n.answer;
    active = n.active;
    next = n.next;
  }

  same_pair : (d : Driver) (k : Key) (o : Option Table) → (take_next d k o).pair ≡ d.pair
  same_pair d k None = refl
  same_pair d k (Some t) = refl

  -- the active buffer has other entries
  near_filled : (d : Driver) (v : Side) (full : List Counted) → is_some d.pair.active ≡ true → Near taken answered v0 d v
      → Near taken answered v0 (record d { pair = record d.pair { active = Some full } }) v
  near_filled d v full some n = record {
    first = record { same = n.first.same; home = λ e. n.first.home (ap (λ (z : Bool). z && eqb d.pair.active_number 0) some ∙ e) };
    second = record { same = n.second.same; home = λ e. n.second.home (ap (λ (z : Bool). z && eqb d.pair.active_number 1) some ∙ e) };
    third = n.third;
    answer = n.answer;
    active = n.active;
    next = n.next;
  }

  did_push : (y : World) (k : Key) (es : List Counted) → y.driver.pair.active ≡ Some es → Near taken answered v0 y.driver y.side
      → CellsDid u.cpu bell answered taken v0 (push u y k es).driver (push u y k es).side
  did_push y k es active n =
      let d = take_next y.driver k y.driver.table in
      let full = es ++ entry_to_write k y.driver.table ∷ [] in
      let m : Near taken answered v0 d y.side = near_taken y.driver y.side k y.driver.table refl n in
      let some : is_some d.pair.active ≡ true = ap (λ (p : Buffers). is_some p.active) (same_pair y.driver k y.driver.table) ∙ ap (λ (z : Option (List Counted)). is_some z) active in
      cond_both (leb u.size (length full)) (hand_buffer u d y.side d.pair.active_number full) (record { driver = record d { pair = record d.pair { active = Some full } }; side = y.side })
      (λ (z : World). CellsDid u.cpu bell answered taken v0 z.driver z.side)
      (λ e. did_of (hand_buffer u d y.side d.pair.active_number full).driver (hand_buffer u d y.side d.pair.active_number full).side (half_hand d y.side d.pair.active_number full m.active some refl m))
      (λ e. near_did (record d { pair = record d.pair { active = Some full } }) y.side (near_filled d y.side full some m))

  did_write : (y : World) (k : Key) (p : Pace) (a : Option (List Counted)) → y.driver.pair.active ≡ a → Near taken answered v0 y.driver y.side
      → DidBy u bell answered taken v0 (write u y k p a)
  did_write y k p (Some es) active n = did_push y k es active n
  did_write y k Free None active n = near_did (lose y k).driver y.side (record { first = n.first; second = n.second; third = n.third; answer = n.answer; active = n.active; next = n.next })
  did_write y k Exact None active n = near_did y.driver y.side n

  -- a look changes no list
  near_looked : (d : Driver) (v : Side) (b w : ℕ) → b ≤ 1 → Near taken answered v0 d v → Near taken answered v0 d (side_look_buffer v b w)
  near_looked d v zero w l n = record { first = record { same = n.first.same; home = n.first.home }; second = n.second; third = n.third; answer = n.answer; active = n.active; next = n.next }
  near_looked d v (suc zero) w l n = record { first = n.first; second = record { same = n.second.same; home = n.second.home }; third = n.third; answer = n.answer; active = n.active; next = n.next }
  near_looked d v (suc (suc b)) w l n = absurd (omega arith)

  -- a buffer came back
  near_active : (h : Two) (d : Driver) (v : Side) (b : ℕ) → b ≤ 1 → (is_even h.first ≡ true → taken.first ≡ v0.first.handed) → (is_even h.second ≡ true → taken.second ≡ v0.second.handed)
      → is_even (word_at h b) ≡ true → Near taken answered v0 d v → Near taken answered v0 (activate d b) v
  near_active h d v zero l first second even n = record {
    first = record { same = n.first.same; home = λ e. first even };
    second = record { same = n.second.same; home = λ e. cc };
    third = n.third;
    answer = n.answer;
    active = omega arith;
    next = n.next;
  }
  near_active h d v (suc zero) l first second even n = record {
    first = record { same = n.first.same; home = λ e. cc };
    second = record { same = n.second.same; home = λ e. second even };
    third = n.third;
    answer = n.answer;
    active = omega arith;
    next = n.next;
  }
  near_active h d v (suc (suc b)) l first second even n = absurd (omega arith)

  other_low : (b : ℕ) → other b ≤ 1
  other_low b = cond_both (eqb b 0) 1 0 (λ (n : ℕ). n ≤ 1) (λ e. omega arith) (λ e. omega arith)

  near_found : (h : Two) (d : Driver) (v : Side) (a : Option (List Counted)) → (is_even h.first ≡ true → taken.first ≡ v0.first.handed) → (is_even h.second ≡ true → taken.second ≡ v0.second.handed)
      → Near taken answered v0 d v → Near taken answered v0 (find_buffer h d v a).driver (find_buffer h d v a).side
  near_found h d v (Some es) first second n = n
  near_found h d v None first second n =
      let b = d.pair.next in let v1 = side_look_buffer v b (word_at h b) in
      let c = other b in let v2 = side_look_buffer v1 c (word_at h c) in
      let m : Near taken answered v0 d v1 = near_looked d v b (word_at h b) n.next n in
      let o : Near taken answered v0 d v2 = near_looked d v1 c (word_at h c) (other_low b) m in
      cond_both (is_even (word_at h b)) (record { driver = activate d b; side = v1 }) (look_other h d v1 c)
      (λ (z : World). Near taken answered v0 z.driver z.side)
      (λ even. near_active h d v1 b n.next first second even m)
      (λ odd. cond_both (is_even (word_at h c)) (activate d c) d (λ (e : Driver). Near taken answered v0 e v2)
      (λ even. near_active h d v2 c (other_low b) first second even o) (λ out. o))

  did_sample : (h : Two) (x : World) (k : Key) → (is_even h.first ≡ true → taken.first ≡ v0.first.handed) → (is_even h.second ≡ true → taken.second ≡ v0.second.handed)
      → Near taken answered v0 x.driver x.side → DidBy u bell answered taken v0 (take_sample u h x k)
  did_sample h x k first second n =
      let y = find_buffer h x.driver x.side x.driver.pair.active in
      let d = take_next x.driver k x.driver.table in
      cond_both (needs_write k x.driver.table) (write_sample u h x k) (ends_with (record { driver = d; side = x.side }) Took)
      (DidBy u bell answered taken v0)
      (λ e. did_write y k u.pace y.driver.pair.active refl (near_found h x.driver x.side x.driver.pair.active first second n))
      (λ e. near_did d x.side (near_taken x.driver x.side k x.driver.table refl n))

  did_next : (h : Two) (x : World) (l : List Marked) → (is_even h.first ≡ true → taken.first ≡ v0.first.handed) → (is_even h.second ≡ true → taken.second ≡ v0.second.handed)
      → Near taken answered v0 x.driver x.side → DidBy u bell answered taken v0 (next_sample u h bell x l)
  did_next h x [] first second n = near_did x.driver x.side n
  did_next h x (s ∷ rest) first second n =
      cond_both (ltb (bell / 2) s.mark) (ends_with x Held) (take_sample u h x s.key) (DidBy u bell answered taken v0)
      (λ e. near_did x.driver x.side n) (λ e. did_sample h x s.key first second n)

-- the table was looked for
near_regained : (answered : ℕ) (taken : Taken) (v0 : Side) (d : Driver) (v : Side) (w : ℕ) (o : Option Table) → d.table ≡ o → (is_even w ≡ true → taken.third ≡ v0.third.handed)
    → Near taken answered v0 d v → Near taken answered v0 (regain d v w o).driver (regain d v w o).side
near_regained answered taken v0 d v w (Some t) held even n = n
near_regained answered taken v0 d v w None held even n =
    let x = side_look_table v w in
    let m : Near taken answered v0 d x = record { first = n.first; second = n.second; third = record { same = n.third.same; home = n.third.home }; answer = n.answer; active = n.active; next = n.next } in
    cond_both (is_even w) (record d { table = Some (empty_table v.buckets v.turn) }) d (λ (e : Driver). Near taken answered v0 e x)
    (λ back. record { first = n.first; second = n.second; third = record { same = n.third.same; home = λ e. even back }; answer = n.answer; active = n.active; next = n.next })
    (λ out. m)

-- what a turn did to the three cells
pub turn_did : (u : Setup) (h : Words) (d : Driver) (v : Side) (taken : Taken) → HasNumbers d → IsTakenWhereHeld taken d v → IsTakenWhereEven taken h v
    → DidBy u h.bell d.answered taken v (turn_of u h (record { driver = d; side = v }))
turn_did u h d v taken numbers held even =
    let v1 = side_hear v h.bell in
    let y = regain d v1 h.third d.table in
    let n : Near taken d.answered v d v = record {
      first = record { same = refl; home = held.first };
      second = record { same = refl; home = held.second };
      third = record { same = refl; home = held.third };
      answer = refl;
      active = numbers.active;
      next = numbers.next;
    } in
    let n1 : Near taken d.answered v d v1 = record { first = n.first; second = n.second; third = n.third; answer = refl; active = n.active; next = n.next } in
    let m : Near taken d.answered v y.driver y.side = near_regained d.answered taken v d v1 h.third d.table refl even.third n1 in
    cond_both d.done (ends_with (record { driver = d; side = v }) Done) (after_regain u h y) (DidBy u h.bell d.answered taken v)
    (λ e. near_did u h.bell d.answered taken v d v n)
    (λ e. cond_both (answers_now u y.driver h.bell) (answer_with u y h.bell y.driver.table) (next_sample u h.two h.bell y (drop y.driver.at u.samples)) (DidBy u h.bell d.answered taken v)
    (λ answers. did_answer u h.bell d.answered taken v y.driver y.side y.driver.table refl answers m)
    (λ none. did_next u h.bell d.answered taken v h.two y (drop y.driver.at u.samples) even.first even.second m))
