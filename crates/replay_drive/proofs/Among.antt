-- One player among all.
use Rattle.std.proofs.Common.{◌≡◌, refl, ◌∙◌, ap, subst, ℕ, zero, suc, ◌+◌, ◌<◌, ◌≤◌, List, [], ◌∷◌, length, arith, Some, None, Option}
use Rattle.std.specs.Prelude.{slice_get, slice_set, map}
use Rattle.sample_key.specs.declared.losses.Pace.{Pace}
use Rattle.trace_model.specs.Recording.{Recording}
use Rattle.lane_side.specs.Plain.{Plain}
use Rattle.cpu_lane.specs.Seen.{Seen}
use Rattle.run_model.specs.Running.{Processor}
use Rattle.replay_drive.specs.Players.{ArePlayers, DaemonsHalf, IsPlayer, half_of, processor_of, processors_of}

-- there are as many sides as lanes
pub as_many : (pace : Pace) (trace : Recording) (cpu : ℕ) (ls : List Seen) (ss : List Plain) → ArePlayers pace trace cpu ls ss → length ls ≡ length ss
as_many pace trace cpu [] [] all = refl
as_many pace trace cpu [] (s ∷ ss) all = absurd all
as_many pace trace cpu (l ∷ ls) [] all = absurd all
as_many pace trace cpu (l ∷ ls) (s ∷ ss) all = ap suc (as_many pace trace (cpu + 1) ls ss all.1)

-- each of them is a player
pub player_at : (pace : Pace) (trace : Recording) (cpu : ℕ) (ls : List Seen) (ss : List Plain) (k : ℕ) (l : Seen) (s : Plain) → ArePlayers pace trace cpu ls ss
    → slice_get ls k ≡ Some l → slice_get ss k ≡ Some s → IsPlayer pace trace (cpu + k) l s
player_at pace trace cpu [] ss k l s all at on = absurd cc
player_at pace trace cpu (x ∷ ls) [] k l s all at on = absurd all
player_at pace trace cpu (x ∷ ls) (y ∷ ss) zero l s all at on =
    let one : x ≡ l = cc in
    let two : y ≡ s = cc in
    subst (λ (n : ℕ). IsPlayer pace trace n l s) (omega arith) (subst (λ (z : Plain). IsPlayer pace trace cpu l z) two (subst (λ (z : Seen). IsPlayer pace trace cpu z y) one all.0))
player_at pace trace cpu (x ∷ ls) (y ∷ ss) (suc k) l s all at on =
    subst (λ (n : ℕ). IsPlayer pace trace n l s) (omega arith) (player_at pace trace (cpu + 1) ls ss k l s all.1 at on)

-- with another player at one place they are players
pub players_set : (pace : Pace) (trace : Recording) (cpu : ℕ) (ls : List Seen) (ss : List Plain) (k : ℕ) (l : Seen) (s : Plain) → ArePlayers pace trace cpu ls ss
    → IsPlayer pace trace (cpu + k) l s → ArePlayers pace trace cpu (slice_set ls k l) (slice_set ss k s)
players_set pace trace cpu [] [] k l s all one = all
players_set pace trace cpu [] (y ∷ ss) k l s all one = absurd all
players_set pace trace cpu (x ∷ ls) [] k l s all one = absurd all
players_set pace trace cpu (x ∷ ls) (y ∷ ss) zero l s all one = (subst (λ (n : ℕ). IsPlayer pace trace n l s) (omega arith) one, all.1)
players_set pace trace cpu (x ∷ ls) (y ∷ ss) (suc k) l s all one =
    (all.0, players_set pace trace (cpu + 1) ls ss k l s all.1 (subst (λ (n : ℕ). IsPlayer pace trace n l s) (omega arith) one))

-- and they are the processors with another one there
pub processors_set : (pace : Pace) (trace : Recording) (cpu : ℕ) (ls : List Seen) (ss : List Plain) (k : ℕ) (l : Seen) (s : Plain) → ArePlayers pace trace cpu ls ss
    → processors_of (slice_set ls k l) (slice_set ss k s) ≡ slice_set (processors_of ls ss) k (processor_of l s)
processors_set pace trace cpu [] [] k l s all = refl
processors_set pace trace cpu [] (y ∷ ss) k l s all = absurd all
processors_set pace trace cpu (x ∷ ls) [] k l s all = absurd all
processors_set pace trace cpu (x ∷ ls) (y ∷ ss) zero l s all = refl
processors_set pace trace cpu (x ∷ ls) (y ∷ ss) (suc k) l s all =
    ap {B = List Processor} (λ z. processor_of x y ∷ z) (processors_set pace trace (cpu + 1) ls ss k l s all.1)

-- the processor of a player
pub processor_there : (ls : List Seen) (ss : List Plain) (k : ℕ) (l : Seen) (s : Plain) → slice_get ls k ≡ Some l → slice_get ss k ≡ Some s
    → slice_get (processors_of ls ss) k ≡ Some (processor_of l s)
processor_there [] ss k l s at on = absurd cc
processor_there (x ∷ ls) [] k l s at on = absurd cc
processor_there (x ∷ ls) (y ∷ ss) zero l s at on =
    let one : x ≡ l = cc in
    let two : y ≡ s = cc in
    ap {B = Option Processor} (λ z. Some (processor_of z y)) one ∙ ap {B = Option Processor} (λ z. Some (processor_of l z)) two
processor_there (x ∷ ls) (y ∷ ss) (suc k) l s at on = processor_there ls ss k l s at on

-- where no lane is, no processor is
pub no_processor : (ls : List Seen) (ss : List Plain) (k : ℕ) → length ls ≤ k → slice_get (processors_of ls ss) k ≡ None
no_processor [] ss k past = refl
no_processor (x ∷ ls) [] k past = refl
no_processor (x ∷ ls) (y ∷ ss) zero past = absurd (omega (arith, past))
no_processor (x ∷ ls) (y ∷ ss) (suc k) past = no_processor ls ss k (omega (arith, past))

-- where a lane is, a side is
pub side_too : (pace : Pace) (trace : Recording) (cpu : ℕ) (ls : List Seen) (ss : List Plain) (k : ℕ) → ArePlayers pace trace cpu ls ss → k < length ls → k < length ss
side_too pace trace cpu ls ss k all within = subst (λ (n : ℕ). k < n) (as_many pace trace cpu ls ss all) within

-- each of all players, by its number
pub player_here : (pace : Pace) (trace : Recording) (ls : List Seen) (ss : List Plain) (cpu : ℕ) (l : Seen) (s : Plain) → ArePlayers pace trace 0 ls ss
    → slice_get ls cpu ≡ Some l → slice_get ss cpu ≡ Some s → IsPlayer pace trace cpu l s
player_here pace trace ls ss cpu l s all at on =
    subst (λ (n : ℕ). IsPlayer pace trace n l s) (omega arith) (player_at pace trace 0 ls ss cpu l s all at on)

-- all players with another one at its number
pub players_with : (pace : Pace) (trace : Recording) (ls : List Seen) (ss : List Plain) (cpu : ℕ) (l : Seen) (s : Plain) → ArePlayers pace trace 0 ls ss
    → IsPlayer pace trace cpu l s → ArePlayers pace trace 0 (slice_set ls cpu l) (slice_set ss cpu s)
players_with pace trace ls ss cpu l s all one =
    players_set pace trace 0 ls ss cpu l s all (subst (λ (n : ℕ). IsPlayer pace trace n l s) (omega arith) one)

-- the processors with another side at one place
pub side_set : (ls : List Seen) (ss : List Plain) (k : ℕ) (l : Seen) (n : Plain) → slice_get ls k ≡ Some l
    → processors_of ls (slice_set ss k n) ≡ slice_set (processors_of ls ss) k (processor_of l n)
side_set [] ss k l n at = absurd cc
side_set (x ∷ ls) [] k l n at = refl
side_set (x ∷ ls) (y ∷ ss) zero l n at =
    let one : x ≡ l = cc in ap {B = List Processor} (λ z. processor_of z n ∷ processors_of ls ss) one
side_set (x ∷ ls) (y ∷ ss) (suc k) l n at = ap {B = List Processor} (λ z. processor_of x y ∷ z) (side_set ls ss k l n at)

-- all players with another side at one place
pub players_side : (pace : Pace) (trace : Recording) (cpu : ℕ) (ls : List Seen) (ss : List Plain) (k : ℕ) (l : Seen) (n : Plain) → ArePlayers pace trace cpu ls ss
    → slice_get ls k ≡ Some l → IsPlayer pace trace (cpu + k) l n → ArePlayers pace trace cpu ls (slice_set ss k n)
players_side pace trace cpu [] ss k l n all at one = absurd cc
players_side pace trace cpu (x ∷ ls) [] k l n all at one = absurd all
players_side pace trace cpu (x ∷ ls) (y ∷ ss) zero l n all at one =
    let same : l ≡ x = cc in
    (subst (λ (m : ℕ). IsPlayer pace trace m x n) (omega arith) (subst (λ (z : Seen). IsPlayer pace trace (cpu + 0) z n) same one), all.1)
players_side pace trace cpu (x ∷ ls) (y ∷ ss) (suc k) l n all at one =
    (all.0, players_side pace trace (cpu + 1) ls ss k l n all.1 at (subst (λ (m : ℕ). IsPlayer pace trace m l n) (omega arith) one))

-- the element that was set
pub set_got : {A : Type 0} (xs : List A) (k : ℕ) (y z : A) → slice_get xs k ≡ Some y → slice_get (slice_set xs k z) k ≡ Some z
set_got [] k y z at = absurd cc
set_got (x ∷ xs) zero y z at = refl
set_got (x ∷ xs) (suc k) y z at = set_got xs k y z at

-- what a turn leaves of one side it leaves of all
pub halves_set : (ss : List Plain) (k : ℕ) (s n : Plain) → slice_get ss k ≡ Some s → half_of n ≡ half_of s → map half_of (slice_set ss k n) ≡ map half_of ss
halves_set [] k s n at same = absurd cc
halves_set (x ∷ ss) zero s n at same =
    let is : s ≡ x = cc in ap {B = List DaemonsHalf} (λ z. z ∷ map half_of ss) (same ∙ ap half_of is)
halves_set (x ∷ ss) (suc k) s n at same = ap {B = List DaemonsHalf} (λ z. half_of x ∷ z) (halves_set ss k s n at same)
