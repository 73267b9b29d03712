-- A turn that finds both buffers back loses no sample.
use Rattle.std.proofs.Common.{◌≡◌, ℕ, ◌/◌, List, [], ◌∷◌, ◌++◌, length, refl, sym, ◌∙◌, subst, Bool, true, false, if◌then◌else◌, Some, None, Option, eqb, leb, ltb, drop}
use Rattle.std.proofs.lemmas.Bool.{cond_both}
use Rattle.sample_key.specs.Counted.{Counted}
use Rattle.sample_key.specs.declared.keys.Key.{Key}
use Rattle.sample_key.specs.declared.keys.Marked.{Marked}
use Rattle.sample_key.specs.declared.losses.Pace.{Pace}
use Rattle.driver_model.specs.Table.{Table, empty_table}
use Rattle.driver_model.specs.Sides.{Side, is_even, side_hear, side_look_buffer}
use Rattle.driver_model.specs.Driver.{Setup, Driver, World, Turned, Two, Words, ends_with, regain, answers_now, hand_buffer, hand_active, answer_with, take_next, entry_to_write, needs_write, activate, other, word_at, look_other, find_buffer, push, write, write_sample, take_sample, next_sample, after_regain, turn_of}
use Rattle.driver_model.specs.declared.answers.Turn.TheVariants.{Took, Held, Done}

-- both words say that the buffers are back
pub record AreBack (words : Two) : Type 0 where
  pub first : is_even words.first ≡ true
  pub second : is_even words.second ≡ true

back_at : (words : Two) (number : ℕ) → AreBack words → is_even (word_at words number) ≡ true
back_at words number back = cond_both (eqb number 0) words.first words.second (λ (n : ℕ). is_even n ≡ true) (λ e. back.first) (λ e. back.second)

active_same : (setup : Setup) (driver : Driver) (side : Side) (active : Option (List Counted)) → (hand_active setup driver side active).driver.losses ≡ driver.losses
active_same setup driver side None = refl
active_same setup driver side (Some entries) = refl

answer_same : (setup : Setup) (world : World) (bell : ℕ) (table : Option Table) → (answer_with setup world bell table).driver.losses ≡ world.driver.losses
answer_same setup world bell None = refl
answer_same setup world bell (Some table) = active_same setup world.driver world.side world.driver.pair.active

taken_same : (driver : Driver) (key : Key) (table : Option Table) → (take_next driver key table).losses ≡ driver.losses
taken_same driver key None = refl
taken_same driver key (Some table) = refl

push_same : (setup : Setup) (world : World) (key : Key) (entries : List Counted) → (push setup world key entries).driver.losses ≡ world.driver.losses
push_same setup world key entries =
    let after = take_next world.driver key world.driver.table in
    let full = entries ++ entry_to_write key world.driver.table ∷ [] in
    cond_both (leb setup.size (length full)) (hand_buffer setup after world.side after.pair.active_number full)
    (record { driver = record after { pair = record after.pair { active = Some full } }; side = world.side })
    (λ (w : World). w.driver.losses ≡ world.driver.losses)
    (λ e. taken_same world.driver key world.driver.table) (λ e. taken_same world.driver key world.driver.table)

-- a buffer is active, and nothing was lost
record FindsOne (driver : Driver) (found : World) : Type 0 where
  entries : List Counted
  active : found.driver.pair.active ≡ Some entries
  same : found.driver.losses ≡ driver.losses

finds_one : (words : Two) (driver : Driver) (side : Side) (active : Option (List Counted)) → AreBack words → driver.pair.active ≡ active
    → FindsOne driver (find_buffer words driver side active)
finds_one words driver side (Some entries) back is = record { entries = entries; active = is; same = refl }
finds_one words driver side None back is =
    let number = driver.pair.next in
    cond_both (is_even (word_at words number))
    (record { driver = activate driver number; side = side_look_buffer side number (word_at words number) })
    (look_other words driver (side_look_buffer side number (word_at words number)) (other number))
    (λ (w : World). FindsOne driver w)
    (λ e. record { entries = []; active = refl; same = refl })
    (λ e. absurd (both (is_even (word_at words number)) (back_at words number back) e))
  where
    both : (t : Bool) → t ≡ true → t ≡ false → ⊥
    both true a b = cc
    both false a b = cc

write_same : (setup : Setup) (world : World) (key : Key) (pace : Pace) (entries : List Counted) (active : Option (List Counted)) → active ≡ Some entries
    → (write setup world key pace active).driver.losses ≡ world.driver.losses
write_same setup world key pace entries active is =
    subst (λ (a : Option (List Counted)). (write setup world key pace a).driver.losses ≡ world.driver.losses) (sym is) (push_same setup world key entries)

take_same : (setup : Setup) (words : Two) (world : World) (key : Key) → AreBack words → (take_sample setup words world key).driver.losses ≡ world.driver.losses
take_same setup words world key back =
    let found = find_buffer words world.driver world.side world.driver.pair.active in
    let one = finds_one words world.driver world.side world.driver.pair.active back refl in
    cond_both (needs_write key world.driver.table) (write_sample setup words world key)
    (ends_with (record { driver = take_next world.driver key world.driver.table; side = world.side }) Took)
    (λ (t : Turned). t.driver.losses ≡ world.driver.losses)
    (λ e. write_same setup found key setup.pace one.entries found.driver.pair.active one.active ∙ one.same)
    (λ e. taken_same world.driver key world.driver.table)

next_same : (setup : Setup) (words : Two) (bell : ℕ) (world : World) (samples : List Marked) → AreBack words
    → (next_sample setup words bell world samples).driver.losses ≡ world.driver.losses
next_same setup words bell world [] back = refl
next_same setup words bell world (sample ∷ rest) back =
    cond_both (ltb (bell / 2) sample.mark) (ends_with world Held) (take_sample setup words world sample.key)
    (λ (t : Turned). t.driver.losses ≡ world.driver.losses)
    (λ e. refl) (λ e. take_same setup words world sample.key back)

after_same : (setup : Setup) (words : Words) (world : World) → AreBack words.two → (after_regain setup words world).driver.losses ≡ world.driver.losses
after_same setup words world back =
    cond_both (answers_now setup world.driver words.bell) (answer_with setup world words.bell world.driver.table)
    (next_sample setup words.two words.bell world (drop world.driver.at setup.samples))
    (λ (t : Turned). t.driver.losses ≡ world.driver.losses)
    (λ e. answer_same setup world words.bell world.driver.table)
    (λ e. next_same setup words.two words.bell world (drop world.driver.at setup.samples) back)

regain_same : (driver : Driver) (side : Side) (word : ℕ) (table : Option Table) → (regain driver side word table).driver.losses ≡ driver.losses
regain_same driver side word (Some table) = refl
regain_same driver side word None = by (is_even word)
  where
    by : (t : Bool) → (if t then record driver { table = Some (empty_table side.buckets side.turn) } else driver).losses ≡ driver.losses
    by true = refl
    by false = refl

-- a turn that finds both back loses nothing
pub turn_same : (setup : Setup) (words : Words) (driver : Driver) (side : Side) → AreBack words.two
    → (turn_of setup words (record { driver = driver; side = side })).driver.losses ≡ driver.losses
turn_same setup words driver side back =
    let world : World = record { driver = driver; side = side } in
    let heard = regain driver (side_hear side words.bell) words.third driver.table in
    cond_both driver.done (ends_with world Done) (after_regain setup words heard)
    (λ (t : Turned). t.driver.losses ≡ driver.losses)
    (λ e. refl)
    (λ e. after_same setup words heard back ∙ regain_same driver (side_hear side words.bell) words.third driver.table)
