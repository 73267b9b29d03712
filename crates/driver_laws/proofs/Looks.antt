-- Hands and looks of a buffer, by its number, and the two looks of a turn.
use Rattle.std.proofs.Common.{◌≡◌, ℕ, ◌≤◌, true, false, eqb}
use Rattle.std.proofs.lemmas.Bool.{cond_both}
use Rattle.sample_key.specs.Sent.{Sent}
use Rattle.driver_model.specs.Sides.{Side, is_even, side_hand_buffer, side_look_buffer}
use Rattle.driver_model.specs.Driver.{Two, look_other, look_both, Driver, World, activate}
use Rattle.driver_laws.proofs.Lists.{by_number}

-- what holds whichever buffer was handed
pub by_hand : (P : Side → Type 0) (v : Side) (b : ℕ) (x : Sent) → P (side_hand_buffer v 0 x) → P (side_hand_buffer v 1 x) → P (side_hand_buffer v b x)
by_hand P v b x first second = cond_both (eqb b 0) (side_hand_buffer v 0 x) (side_hand_buffer v 1 x) P (λ e. first) (λ e. second)

-- what holds whichever buffer was looked at
pub by_look : (P : Side → Type 0) (v : Side) (b w : ℕ) → P (side_look_buffer v 0 w) → P (side_look_buffer v 1 w) → P (side_look_buffer v b w)
by_look P v b w first second = cond_both (eqb b 0) (side_look_buffer v 0 w) (side_look_buffer v 1 w) P (λ e. first) (λ e. second)

-- What holds at each of the five ends of both looks holds after them: a buffer is back at once, or after the other one was out, or both
-- are out, in either order.
pub look_ends : (P : World → Type 0) (h : Two) (d : Driver) (v : Side) (b : ℕ) → b ≤ 1
    → (is_even h.first ≡ true → P (record { driver = activate d 0; side = side_look_buffer v 0 h.first }))
    → (is_even h.second ≡ true → P (record { driver = activate d 1; side = side_look_buffer v 1 h.second }))
    → (is_even h.first ≡ false → is_even h.second ≡ true → P (record { driver = activate d 1; side = side_look_buffer (side_look_buffer v 0 h.first) 1 h.second }))
    → (is_even h.second ≡ false → is_even h.first ≡ true → P (record { driver = activate d 0; side = side_look_buffer (side_look_buffer v 1 h.second) 0 h.first }))
    → (is_even h.first ≡ false → is_even h.second ≡ false → P (record { driver = d; side = side_look_buffer (side_look_buffer v 0 h.first) 1 h.second }))
    → P (look_both h d v b)
look_ends P h d v b low back0 back1 then1 then0 out =
    let v0 = side_look_buffer v 0 h.first in let v1 = side_look_buffer v 1 h.second in
    by_number (λ (n : ℕ). P (look_both h d v n)) b low
    (cond_both (is_even h.first) (record { driver = activate d 0; side = v0 }) (look_other h d v0 1) P back0
    (λ odd. cond_both (is_even h.second) (activate d 1) d (λ (e : Driver). P (record { driver = e; side = side_look_buffer v0 1 h.second })) (then1 odd) (out odd)))
    (cond_both (is_even h.second) (record { driver = activate d 1; side = v1 }) (look_other h d v1 0) P back1
    (λ odd. cond_both (is_even h.first) (activate d 0) d (λ (e : Driver). P (record { driver = e; side = side_look_buffer v1 0 h.first })) (then0 odd) (λ odd0. out odd0 odd)))
