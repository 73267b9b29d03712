-- What a turn gives for the next sample, as the definitions say it.
use Rattle.std.proofs.Common.{◌≡◌, ℕ, ◌/◌, ◌<◌, ◌≤◌, List, [], ◌∷◌, ◌++◌, drop, refl, sym, ◌∙◌, ap, subst, arith, Bool, true, false, Some, None, Option, cond, eqb, ltb, leb, eq-eqb, eqb-true, ltb-true, ltb-false, le-leb, length}
use Rattle.std.proofs.lemmas.Bool.{cond-true, cond-false, lt-ltb, le-ltb, lt-leb}
use Rattle.std.specs.Prelude.{is_some, unwrap_or}
use Rattle.sample_key.specs.Counted.{Counted, entry}
use Rattle.sample_key.specs.Marks.{due, IsRising, RisesFrom}
use Rattle.sample_key.specs.declared.keys.Key.{Key}
use Rattle.sample_key.specs.declared.keys.Marked.{Marked}
use Rattle.sample_key.specs.declared.losses.Pace.{Pace}
use Rattle.sample_key.specs.declared.losses.Pace.TheVariants.{Exact}
use Rattle.driver_model.specs.Table.{Table}
use Rattle.driver_model.specs.Sides.{Side}
use Rattle.driver_model.specs.Driver.{Setup, Driver, World, Turned, Two, Words, find_buffer, look_both, push, to_write, entry_to_write, write, write_sample, take_sample, next_sample, take_next, needs_write, hand_buffer, ends_with, may_answer, answers_now, answer_with, after_regain}
use Rattle.driver_model.specs.declared.answers.Turn.{Turn}
use Rattle.driver_model.specs.declared.answers.Turn.TheVariants.{Took, Held, Idle}
use Rattle.driver_laws.proofs.Marks.{rises_from, due_none}
use Rattle.cpu_lane.specs.Steps.{Is, Gives, put, take_held}

-- by the value of a test
by_test : (P : Bool → Type 0) (b : Bool) → (b ≡ true → P true) → (b ≡ false → P false) → P b
by_test P true f g = f refl
by_test P false f g = g refl

some_due : (n : ℕ) → 1 ≤ n → eqb n 0 ≡ false
some_due n h = by_test (λ (b : Bool). b ≡ false) (eqb n 0) (λ e. absurd (omega (arith, eqb-true n 0 e))) (λ e. refl)

-- no sample is due exactly where the next one is later
pub next_later : (ss : List Marked) (n m : ℕ) (s : Marked) (rest : List Marked) → IsRising ss → drop n ss ≡ s ∷ rest → ltb m s.mark ≡ eqb (due (drop n ss) m) 0
next_later ss n m s rest rising next =
    let from : RisesFrom s.mark (s ∷ rest) = rises_from ss 0 n s rest rising next in
    subst (λ (l : List Marked). ltb m s.mark ≡ eqb (due l m) 0) (sym next)
    (by_test (λ (b : Bool). b ≡ eqb (due (s ∷ rest) m) 0) (ltb m s.mark)
    (λ later. sym (eq-eqb (due (s ∷ rest) m) 0 (due_none (s ∷ rest) s.mark m from (ltb-true m s.mark later))))
    (λ now. sym (some_due (due (s ∷ rest) m) (rw (cond-true {A = ℕ} (leb s.mark m) 1 0 (le-leb s.mark m (ltb-false m s.mark now))) (omega arith)))))

-- whether the driver may answer at the exact pace, by the next sample
pub may_exact : (u : Setup) (d : Driver) (w : ℕ) (p : Pace) (s : Marked) (rest : List Marked) → IsRising u.samples → p ≡ Exact → drop d.at u.samples ≡ s ∷ rest
    → ltb (w / 2) s.mark ≡ may_answer u d w p
may_exact u d w p s rest rising pace next =
    subst (λ (q : Pace). ltb (w / 2) s.mark ≡ may_answer u d w q) (sym pace) (next_later u.samples d.at (w / 2) s rest rising next)

-- what the write gives after a buffer was looked for
pub write_at : (u : Setup) (k : Key) (h : Two) (d : Driver) (v : Side) (e : Driver) (w : Side) (a : Option (List Counted)) (said : Turn) (f : Driver) (x : Side) → d.pair.active ≡ None
    → Is (look_both h d v d.pair.next) e w → e.pair.active ≡ a → Gives (write u (record { driver = e; side = w }) k u.pace a) said f x
    → Gives (write_sample u h (record { driver = d; side = v }) k) said f x
write_at u k h d v e w a said f x none is active gives =
    let here : record { driver = e; side = w } ≡ look_both h d v d.pair.next = λ i. record { driver = is.0 i; side = is.1 i } in
    let same : record { driver = e; side = w } ≡ find_buffer h d v d.pair.active = here ∙ sym (ap (λ (b : Option (List Counted)). find_buffer h d v b) none) in
    subst (λ (z : World). Gives (write u z k u.pace z.driver.pair.active) said f x) same
    (subst (λ (b : Option (List Counted)). Gives (write u (record { driver = e; side = w }) k u.pace b) said f x) (sym active) gives)

-- the same, where a buffer of these entries is active now
pub write_held : (u : Setup) (k : Key) (h : Two) (d : Driver) (v : Side) (e : Driver) (w : Side) (es : List Counted) (said : Turn) (f : Driver) (x : Side) → d.pair.active ≡ None
    → Is (look_both h d v d.pair.next) e w → e.pair.active ≡ Some es → needs_write k e.table ≡ true → Gives (take_held u (record { driver = e; side = w }) k es) said f x
    → Gives (write_sample u h (record { driver = d; side = v }) k) said f x
write_held u k h d v e w es said f x none is active needs gives =
    let y : World = record { driver = e; side = w } in
    write_at u k h d v e w (Some es) said f x none is active
    (subst (λ (t : Turned). Gives t said f x)
    (cond-true (needs_write k e.table) (ends_with (push u y k es) Took) (ends_with (record { driver = take_next e k e.table; side = w }) Took) needs) gives)

-- something was to be written, where a buffer of these entries is active
pub held_some : (u : Setup) (d : Driver) (v : Side) (k : Key) (es : List Counted) (x : Counted) (e f : Driver) (y : Side) → to_write k d.table ≡ Some x
    → e ≡ take_next d k d.table → Is (put u e v (es ++ x ∷ [])) f y → Gives (take_held u (record { driver = d; side = v }) k es) Took f y
held_some u d v k es x e f y out is puts =
    let same : entry_to_write k d.table ≡ x = ap (λ (z : Option Counted). unwrap_or z (entry k 1)) out in
    let needs : needs_write k d.table ≡ true = ap (λ (z : Option Counted). is_some z) out in
    let here : Is (put u (take_next d k d.table) v (es ++ entry_to_write k d.table ∷ [])) f y =
    subst (λ (z : Counted). Is (put u (take_next d k d.table) v (es ++ z ∷ [])) f y) (sym same) (subst (λ (z : Driver). Is (put u z v (es ++ x ∷ [])) f y) is puts) in
    subst (λ (z : Turned). Gives z Took f y)
    (sym (cond-true (needs_write k d.table) (ends_with (push u (record { driver = d; side = v }) k es) Took) (ends_with (record { driver = take_next d k d.table; side = v }) Took) needs))
    (refl, here.0, here.1)

-- nothing was
pub held_none : (u : Setup) (d : Driver) (v : Side) (k : Key) (es : List Counted) (e : Driver) → to_write k d.table ≡ None → e ≡ take_next d k d.table
    → Gives (take_held u (record { driver = d; side = v }) k es) Took e v
held_none u d v k es e out is =
    let spare : needs_write k d.table ≡ false = ap (λ (z : Option Counted). is_some z) out in
    subst (λ (z : Turned). Gives z Took e v)
    (sym (cond-false (needs_write k d.table) (ends_with (push u (record { driver = d; side = v }) k es) Took) (ends_with (record { driver = take_next d k d.table; side = v }) Took) spare))
    (refl, is, refl)

-- the entries fill the buffer, which is handed
pub put_full : (u : Setup) (d m : Driver) (v : Side) (es : List Counted) (f : Driver) (y : Side) → u.size ≤ length es → m ≡ record d { pair = record d.pair { active = None } }
    → Is (hand_buffer u m v m.pair.active_number es) f y → Is (put u d v es) f y
put_full u d m v es f y full same hands =
    let here : Is (hand_buffer u d v d.pair.active_number es) f y = subst (λ (z : Driver). Is (hand_buffer u z v z.pair.active_number es) f y) same hands in
    subst (λ (z : World). Is z f y)
    (sym (cond-true (leb u.size (length es)) (hand_buffer u d v d.pair.active_number es) (record { driver = record d { pair = record d.pair { active = Some es } }; side = v }) (le-leb u.size (length es) full))) here

-- they do not
pub put_room : (u : Setup) (d m : Driver) (v : Side) (es : List Counted) → length es < u.size → m ≡ record d { pair = record d.pair { active = Some es } } → Is (put u d v es) m v
put_room u d m v es room same =
    subst (λ (z : World). Is z m v)
    (sym (cond-false (leb u.size (length es)) (hand_buffer u d v d.pair.active_number es) (record { driver = record d { pair = record d.pair { active = Some es } }; side = v }) (lt-leb u.size (length es) room))) (same, refl)

-- a buffer of these entries was active
pub take_active : (u : Setup) (h : Two) (d : Driver) (v : Side) (k : Key) (es : List Counted) (said : Turn) (f : Driver) (y : Side) → d.pair.active ≡ Some es
    → Gives (take_held u (record { driver = d; side = v }) k es) said f y → Gives (take_sample u h (record { driver = d; side = v }) k) said f y
take_active u h d v k es said f y active gives =
    let x : World = record { driver = d; side = v } in
    let writes : write_sample u h x k ≡ ends_with (push u x k es) Took =
    ap (λ (a : Option (List Counted)). write u (find_buffer h d v a) k u.pace (find_buffer h d v a).driver.pair.active) active ∙ ap (λ (a : Option (List Counted)). write u x k u.pace a) active in
    subst (λ (z : Turned). Gives (cond (needs_write k d.table) z (ends_with (record { driver = take_next d k d.table; side = v }) Took)) said f y) (sym writes) gives

-- the sample needs no write
pub take_plain : (u : Setup) (h : Two) (d : Driver) (v : Side) (k : Key) (o : Option Table) (e : Driver) → d.table ≡ o → needs_write k o ≡ false → e ≡ take_next d k o
    → Gives (take_sample u h (record { driver = d; side = v }) k) Took e v
take_plain u h d v k o e table needs is =
    let none : needs_write k d.table ≡ false = ap (λ (t : Option Table). needs_write k t) table ∙ needs in
    let x : World = record { driver = d; side = v } in
    subst (λ (t : Turned). Gives t Took e v) (sym (cond-false (needs_write k d.table) (write_sample u h x k) (ends_with (record { driver = take_next d k d.table; side = v }) Took) none))
    (refl, is ∙ ap (λ (t : Option Table). take_next d k t) (sym table), refl)

-- the sample needs a write
pub take_write : (u : Setup) (h : Two) (d : Driver) (v : Side) (k : Key) (said : Turn) (f : Driver) (x : Side) → needs_write k d.table ≡ true
    → Gives (write_sample u h (record { driver = d; side = v }) k) said f x → Gives (take_sample u h (record { driver = d; side = v }) k) said f x
take_write u h d v k said f x needs gives =
    let y : World = record { driver = d; side = v } in
    subst (λ (t : Turned). Gives t said f x) (sym (cond-true (needs_write k d.table) (write_sample u h y k) (ends_with (record { driver = take_next d k d.table; side = v }) Took) needs)) gives

-- the next sample is later
pub next_held : (u : Setup) (h : Two) (w : ℕ) (d : Driver) (v : Side) (l : List Marked) (s : Marked) (rest : List Marked) → l ≡ s ∷ rest → w / 2 < s.mark
    → Gives (next_sample u h w (record { driver = d; side = v }) l) Held d v
next_held u h w d v l s rest next later =
    let x : World = record { driver = d; side = v } in
    subst (λ (m : List Marked). Gives (next_sample u h w x m) Held d v) (sym next)
    (subst (λ (t : Turned). Gives t Held d v) (sym (cond-true (ltb (w / 2) s.mark) (ends_with x Held) (take_sample u h x s.key) (lt-ltb (w / 2) s.mark later))) (refl, refl, refl))

-- the next sample is due
pub next_due : (u : Setup) (h : Two) (w : ℕ) (d : Driver) (v : Side) (l : List Marked) (s : Marked) (rest : List Marked) (said : Turn) (f : Driver) (y : Side) → l ≡ s ∷ rest → s.mark ≤ w / 2
    → Gives (take_sample u h (record { driver = d; side = v }) s.key) said f y → Gives (next_sample u h w (record { driver = d; side = v }) l) said f y
next_due u h w d v l s rest said f y next now gives =
    let x : World = record { driver = d; side = v } in
    subst (λ (m : List Marked). Gives (next_sample u h w x m) said f y) (sym next)
    (subst (λ (t : Turned). Gives t said f y) (sym (cond-false (ltb (w / 2) s.mark) (ends_with x Held) (take_sample u h x s.key) (le-ltb (w / 2) s.mark now))) gives)

-- no sample is left
pub next_idle : (u : Setup) (h : Two) (w : ℕ) (d : Driver) (v : Side) (l : List Marked) → l ≡ [] → Gives (next_sample u h w (record { driver = d; side = v }) l) Idle d v
next_idle u h w d v l none = subst (λ (m : List Marked). Gives (next_sample u h w (record { driver = d; side = v }) m) Idle d v) (sym none) (refl, refl, refl)

-- the value is answered
pub after_answer : (u : Setup) (h : Words) (d : Driver) (v : Side) (said : Turn) (f : Driver) (y : Side) → answers_now u d h.bell ≡ true
    → Gives (answer_with u (record { driver = d; side = v }) h.bell d.table) said f y → Gives (after_regain u h (record { driver = d; side = v })) said f y
after_answer u h d v said f y now gives =
    let x : World = record { driver = d; side = v } in
    subst (λ (t : Turned). Gives t said f y) (sym (cond-true (answers_now u d h.bell) (answer_with u x h.bell d.table) (next_sample u h.two h.bell x (drop d.at u.samples)) now)) gives

-- it is not
pub after_next : (u : Setup) (h : Words) (d : Driver) (v : Side) (said : Turn) (f : Driver) (y : Side) → answers_now u d h.bell ≡ false
    → Gives (next_sample u h.two h.bell (record { driver = d; side = v }) (drop d.at u.samples)) said f y → Gives (after_regain u h (record { driver = d; side = v })) said f y
after_next u h d v said f y none gives =
    let x : World = record { driver = d; side = v } in
    subst (λ (t : Turned). Gives t said f y) (sym (cond-false (answers_now u d h.bell) (answer_with u x h.bell d.table) (next_sample u h.two h.bell x (drop d.at u.samples)) none)) gives
