-- A turn that answers Done has answered the close, and what the close left.
use Rattle.std.proofs.Common.{◌≡◌, ℕ, ◌/◌, List, [], ◌∷◌, drop, sym, ◌∙◌, ap, true, false, Some, None, Option, eqb, ◌&&◌, eqb-true, ltb}
use Rattle.std.specs.Prelude.{is_some}
use Rattle.std.proofs.lemmas.Bool.{cond_both}
use Rattle.sample_key.specs.Counted.{Counted}
use Rattle.sample_key.specs.declared.keys.Key.{Key}
use Rattle.sample_key.specs.declared.keys.Marked.{Marked}
use Rattle.sample_key.specs.declared.losses.Pace.{Pace}
use Rattle.sample_key.specs.declared.losses.Pace.TheVariants.{Free, Exact}
use Rattle.driver_model.specs.Table.{Table}
use Rattle.driver_model.specs.Sides.{Side, side_hear}
use Rattle.driver_model.specs.Driver.{Setup, Driver, World, Two, Words, Turned, Buffers, ends_with, regain, answer_with, answers_now, take_next, needs_write, find_buffer, write, write_sample, take_sample, next_sample, after_regain, turn_of}
use Rattle.driver_model.specs.Invariant.{DriverInvariant, is_active}
use Rattle.driver_model.specs.declared.answers.Turn.{Turn}
use Rattle.driver_model.specs.declared.answers.Turn.TheVariants.{Took, Held, Answered, Done}
use Rattle.driver_laws.specs.Doings.{IsAtRest}

-- where the answer is Done the close was answered
abbrev Closes : Turned → Type 0
Closes t = t.answer ≡ Done → t.driver.done ≡ true

write_closes : (u : Setup) (y : World) (k : Key) (p : Pace) (a : Option (List Counted)) → Closes (write u y k p a)
write_closes u y k p (Some es) e = cc
write_closes u y k Free None e = cc
write_closes u y k Exact None e = cc

sample_closes : (u : Setup) (h : Two) (x : World) (k : Key) → Closes (take_sample u h x k)
sample_closes u h x k =
    let y = find_buffer h x.driver x.side x.driver.pair.active in
    cond_both (needs_write k x.driver.table) (write_sample u h x k) (ends_with (record { driver = take_next x.driver k x.driver.table; side = x.side }) Took) Closes
    (λ e. write_closes u y k u.pace y.driver.pair.active) (λ e f. cc)

next_closes : (u : Setup) (h : Two) (w : ℕ) (x : World) (l : List Marked) → Closes (next_sample u h w x l)
next_closes u h w x [] = λ e. cc
next_closes u h w x (s ∷ rest) = cond_both (ltb (w / 2) s.mark) (ends_with x Held) (take_sample u h x s.key) Closes (λ e f. cc) (λ e. sample_closes u h x s.key)

answer_closes : (u : Setup) (x : World) (w : ℕ) (o : Option Table) → Closes (answer_with u x w o)
answer_closes u x w None = λ e. cc
answer_closes u x w (Some t) = cond_both (eqb w u.last) Done Answered (λ (a : Turn). a ≡ Done → eqb w u.last ≡ true) (λ e f. e) (λ e f. cc)

-- a turn that answers Done has answered the close
pub done_is_closed : (u : Setup) (h : Words) (x : World) → Closes (turn_of u h x)
done_is_closed u h x =
    let y = regain x.driver (side_hear x.side h.bell) h.third x.driver.table in
    cond_both x.driver.done (ends_with x Done) (after_regain u h y) Closes
    (λ e f. e)
    (λ e. cond_both (answers_now u y.driver h.bell) (answer_with u y h.bell y.driver.table) (next_sample u h.two h.bell y (drop y.driver.at u.samples)) Closes
    (λ a. answer_closes u y h.bell y.driver.table) (λ a. next_closes u h.two h.bell y (drop y.driver.at u.samples)))

-- where no buffer is active neither is
none_active : (p : Buffers) (b : ℕ) → p.active ≡ None → is_active p b ≡ false
none_active p b e = ap (λ (z : Option (List Counted)). is_some z && eqb p.active_number b) e

-- what the close left
pub closed_is_at_rest : (u : Setup) (d : Driver) (v : Side) → DriverInvariant u d v → d.done ≡ true → IsAtRest u d v
closed_is_at_rest u d v i done =
    let end = i.closed.end done in
    record {
      answered = eqb-true d.answered u.last (sym i.closed.done ∙ done);
      at = end.at;
      table = end.table;
      active = end.active;
      holds0 = i.in_step.holds0 ∙ none_active d.pair 0 end.active;
      holds1 = i.in_step.holds1 ∙ none_active d.pair 1 end.active;
      holds2 = i.in_step.holds2 ∙ ap (λ (z : Option Table). is_some z) end.table;
    }
