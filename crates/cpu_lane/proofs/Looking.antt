-- What looks find, as the definitions say it.
use Rattle.std.proofs.Common.{◌≡◌, ℕ, ◌+◌, ◌-◌, ◌*◌, ◌%◌, ◌≤◌, length, refl, sym, ◌∙◌, ap, subst, Bool, true, false, Some, None, Option, eqb, cond, eq-eqb}
use Rattle.std.specs.Prelude.{is_some, IfSome}
use Rattle.std.proofs.lemmas.Bool.{cond-true, cond-false, both_ways}
use Rattle.driver_model.specs.Table.{Table, empty_table}
use Rattle.driver_model.specs.Sides.{Slot, Side, is_even, slot_of, side_look_table, side_look_buffer}
use Rattle.driver_model.specs.Handover.{FarSide, Given, given_of}
use Rattle.driver_model.specs.Driver.{Driver, World, Two, activate, other, regain, look_other, look_both}
use Rattle.driver_model.specs.Runs.{word_of}
use Rattle.driver_laws.specs.Turns.{IsFairWord}
use Rattle.driver_laws.proofs.Lists.{by_number}
use Rattle.overflow_pair.specs.Contents.{Contents}
use Rattle.lane_side.specs.Calls.{ReadsBuffer, ReadsTable}
use Rattle.cpu_lane.specs.Told.{OverTwo, OverThird, two_at}
use Rattle.cpu_lane.specs.Steps.{Is, looked, both_out, Finds}
use Rattle.cpu_lane.proofs.Told.{told_word}

pub even_of : (w : ℕ) → w % 2 ≡ 0 → is_even w ≡ true
even_of w h = eq-eqb (w % 2) 0 h

pub odd_of : (w : ℕ) → w % 2 ≡ 1 → is_even w ≡ false
odd_of w h = subst (λ (n : ℕ). eqb n 0 ≡ false) (sym h) refl

-- an even word is fair
fair_even : (c : Slot) (w : ℕ) → w % 2 ≡ 0 → IsFairWord c w
fair_even c w h odd = absurd (both_ways (is_even w) odd (even_of w h))

-- by the test of a case
is_then : {A : Type 0} (P : A → Type 0) (b : Bool) (x y : A) → b ≡ true → P x → P (cond b x y)
is_then {A = A} P b x y e h = subst P (sym (cond-true b x y e)) h

is_else : {A : Type 0} (P : A → Type 0) (b : Bool) (x y : A) → b ≡ false → P y → P (cond b x y)
is_else {A = A} P b x y e h = subst P (sym (cond-false b x y e)) h

-- the table is held, and not looked for
pub table_held : (f : FarSide) (d : Driver) (v : Side) (o : Option Table) → is_some o ≡ true → OverThird f v (λ word. Is (regain d v word o) d v)
table_held f d v None held = absurd (both_ways false refl held)
table_held f d v (Some t) held = record { read = (0, (refl, refl)); told = λ given e. (refl, refl) }

-- the table came back, or not: the look read this word
pub table_looked : (f : FarSide) (d : Driver) (v : Side) (o : Option Table) (r : ℕ) (e : Driver) (w : Side) → is_some o ≡ false → ReadsTable v f r
    → e ≡ cond (is_even r) (record d { table = Some (empty_table v.buckets v.turn) }) d → w ≡ side_look_table v r
    → OverThird f v (λ word. Is (regain d v word o) e w)
table_looked f d v (Some t) r e w none told driver side = absurd (both_ways true none refl)
table_looked f d v None r e w none told driver side = record {
  read = (r, (driver, side));
  told = λ given is.
      let word : r ≡ word_of v.third given.third = subst (λ (o : Option Given). IfSome o (λ g. r ≡ word_of v.third g.third)) is told in
      subst (λ (n : ℕ). Is (regain d v n None) e w) word (driver, side);
}

-- the driver after the look for the table: an even word brought this one
pub table_back : (d : Driver) (v : Side) (t : Table) (r : ℕ) → r % 2 ≡ 0 → t ≡ empty_table v.buckets v.turn
    → record d { table = Some t } ≡ cond (is_even r) (record d { table = Some (empty_table v.buckets v.turn) }) d
table_back d v t r even is =
    ap (λ (s : Table). record d { table = Some s }) is
    ∙ sym (cond-true (is_even r) (record d { table = Some (empty_table v.buckets v.turn) }) d (even_of r even))

-- an odd one brought none
pub table_out : (d : Driver) (v : Side) (r : ℕ) → r % 2 ≡ 1 → d ≡ cond (is_even r) (record d { table = Some (empty_table v.buckets v.turn) }) d
table_out d v r odd = sym (cond-false (is_even r) (record d { table = Some (empty_table v.buckets v.turn) }) d (odd_of r odd))

-- a buffer came back: the driver and the side after the look
pub back_looked : (d e : Driver) (v w : Side) (b r : ℕ) → r % 2 ≡ 0 → e ≡ activate d b → w ≡ side_look_buffer v b r → Is (looked d v b r) e w
back_looked d e v w b r even driver side =
    (driver ∙ sym (cond-true (is_even r) (activate d b) d (even_of r even)), side)

-- it is out
pub out_looked : (d : Driver) (v w : Side) (b r : ℕ) → r % 2 ≡ 1 → w ≡ side_look_buffer v b r → Is (looked d v b r) d w
out_looked d v w b r odd side = (sym (cond-false (is_even r) (activate d b) d (odd_of r odd)), side)

-- both are out: their words, in order
pub both_found : (v w : Side) (size b word before r : ℕ) (active : Option Contents) → b ≤ 1 → active ≡ None → before ≡ (slot_of v (other b)).read → w ≡ side_look_buffer v b r → word ≡ r
    → Finds size w (both_out b word before) active
both_found v w size b word before r active number none last side same =
    by_number (λ (n : ℕ). before ≡ (slot_of v (other n)).read → w ≡ side_look_buffer v n r → Finds size w (both_out n word before) active) b number
    (λ l s. (none, same ∙ sym (ap (λ (z : Side). z.first.read) s), l ∙ sym (ap (λ (z : Side). z.second.read) s)))
    (λ l s. (none, l ∙ sym (ap (λ (z : Side). z.first.read) s), same ∙ sym (ap (λ (z : Side). z.second.read) s)))
    last side

-- the first look brought its buffer, whatever the word of the other
first_back : (d : Driver) (v : Side) (h : Two) (b : ℕ) (e : Driver) (w : Side) (r : ℕ) → cond (eqb b 0) h.first h.second ≡ r → r % 2 ≡ 0 → e ≡ activate d b → w ≡ side_look_buffer v b r → Is (look_both h d v b) e w
first_back d v h b e w r word even driver side =
    let n = cond (eqb b 0) h.first h.second in
    is_then (λ (z : World). Is z e w) (is_even n) (record { driver = activate d b; side = side_look_buffer v b n }) (look_other h d (side_look_buffer v b n) (other b))
    (even_of n (subst (λ (m : ℕ). m % 2 ≡ 0) (sym word) even)) (driver, subst (λ (m : ℕ). w ≡ side_look_buffer v b m) (sym word) side)

-- the first look found its buffer out, and the second this one
then_other : (d : Driver) (v : Side) (h : Two) (b : ℕ) (e : Driver) (w : Side) (r m : ℕ) → cond (eqb b 0) h.first h.second ≡ r → cond (eqb (other b) 0) h.first h.second ≡ m → r % 2 ≡ 1
    → Is (looked d (side_look_buffer v b r) (other b) m) e w → Is (look_both h d v b) e w
then_other d v h b e w r m word next odd found =
    let n = cond (eqb b 0) h.first h.second in
    is_else (λ (z : World). Is z e w) (is_even n) (record { driver = activate d b; side = side_look_buffer v b n }) (look_other h d (side_look_buffer v b n) (other b))
    (odd_of n (subst (λ (k : ℕ). k % 2 ≡ 1) (sym word) odd))
    (subst (λ (k : ℕ). Is (looked d (side_look_buffer v b n) (other b) k) e w) (sym next)
    (subst (λ (k : ℕ). Is (looked d (side_look_buffer v b k) (other b) m) e w) (sym word) found))

-- the told word of a buffer, by its number
at_number : (v : Side) (g : Given) (b : ℕ) → b ≤ 1 → cond (eqb b 0) (word_of v.first g.first) (word_of v.second g.second) ≡ word_of (slot_of v b) (given_of g b)
at_number v g b number =
    by_number (λ (n : ℕ). cond (eqb n 0) (word_of v.first g.first) (word_of v.second g.second) ≡ word_of (slot_of v n) (given_of g n)) b number refl refl

-- the first look brought its buffer
pub both_back : (f : FarSide) (d e : Driver) (v w : Side) (b r : ℕ) → b ≤ 1 → r % 2 ≡ 0 → ReadsBuffer v f b r → e ≡ activate d b → w ≡ side_look_buffer v b r
    → OverTwo f v (λ two. Is (look_both two d v b) e w)
both_back f d e v w b r number even told driver side =
    let h : Two = record { first = r; second = r } in
    record {
      read = (h, first_back d v h b e w r (by_number (λ (n : ℕ). cond (eqb n 0) r r ≡ r) b number refl refl) even driver side, (fair_even v.first r even, fair_even v.second r even));
      told = λ given is. first_back d v (two_at given v) b e w r (at_number v given b number ∙ sym (told_word v f b r given is told)) even driver side;
    }

-- the first look found its buffer out, and the second what it found
pub both_other : (f far : FarSide) (d e : Driver) (v x w : Side) (b r m : ℕ) → b ≤ 1 → r % 2 ≡ 1 → r + 1 ≡ 2 * length (slot_of v b).handed → ReadsBuffer v f b r → x ≡ side_look_buffer v b r
    → far ≡ f → ReadsBuffer x far (1 - b) m → IsFairWord (slot_of x (1 - b)) m → Is (looked d x (1 - b) m) e w
    → OverTwo f v (λ two. Is (look_both two d v b) e w)
both_other f far d e v x w b r m number odd fair told side same next even found =
    at b number fair told
    (subst (λ (g : FarSide). ReadsBuffer (side_look_buffer v b r) g (1 - b) m) same (subst (λ (z : Side). ReadsBuffer z far (1 - b) m) side next))
    (subst (λ (z : Side). IsFairWord (slot_of z (1 - b)) m) side even) (subst (λ (z : Side). Is (looked d z (1 - b) m) e w) side found)
  where
    at : (n : ℕ) → n ≤ 1 → r + 1 ≡ 2 * length (slot_of v n).handed → ReadsBuffer v f n r → ReadsBuffer (side_look_buffer v n r) f (1 - n) m
        → IsFairWord (slot_of (side_look_buffer v n r) (1 - n)) m → Is (looked d (side_look_buffer v n r) (1 - n) m) e w
        → OverTwo f v (λ two. Is (look_both two d v n) e w)
    at n l = by_number (λ (k : ℕ). r + 1 ≡ 2 * length (slot_of v k).handed → ReadsBuffer v f k r → ReadsBuffer (side_look_buffer v k r) f (1 - k) m
        → IsFairWord (slot_of (side_look_buffer v k r) (1 - k)) m → Is (looked d (side_look_buffer v k r) (1 - k) m) e w
        → OverTwo f v (λ two. Is (look_both two d v k) e w)) n l
        (λ last first second other_fair seen. record {
          read = (record { first = r; second = m }, then_other d v (record { first = r; second = m }) 0 e w r m refl refl odd seen, ((λ o. last), other_fair));
          told = λ given is. then_other d v (two_at given v) 0 e w r m (sym (told_word v f 0 r given is first)) (sym (told_word (side_look_buffer v 0 r) f 1 m given is second)) odd seen;
        })
        (λ last first second other_fair seen. record {
          read = (record { first = m; second = r }, then_other d v (record { first = m; second = r }) 1 e w r m refl refl odd seen, (other_fair, (λ o. last)));
          told = λ given is. then_other d v (two_at given v) 1 e w r m (sym (told_word v f 1 r given is first)) (sym (told_word (side_look_buffer v 1 r) f 0 m given is second)) odd seen;
        })
