-- Turns of a lane, one after another; and the lanes that have none of the threads, stepped one by one.
use Rattle.std.proofs.Common.{◌≡◌, ℕ, zero, suc, List, [], ◌∷◌, ◌++◌, length, slice_set, slice_index_or, refl, ap, sym, subst, ◌∙◌}
use Rattle.driver_model.specs.Driver.{Setup, Words, World, turn_of}
use Rattle.driver_model.specs.declared.answers.Turn.{Turn}
use Rattle.driver_model.specs.declared.answers.Turn.TheVariants.{Took, Lost, Held, Answered, Idle, Done}
use Rattle.lane_threads.specs.Pairs.{Pairwise}
use Rattle.lane_threads.specs.Promising.{Runs, TookStep}
use Rattle.lane_threads.specs.Working.{Working, IsSame, IsLater, IsEnded, TookTurn, after_turns, next_after, world_in}
use Rattle.lane_threads.specs.declared.runners.Runner.{Runner}
use Rattle.lane_threads.specs.declared.works.Next.TheVariants.{End}
use Rattle.lane_threads.specs.declared.runners.Runner.TheVariants.{Away, Here}
use Rattle.lane_threads.proofs.Pairing.{pairs_then}

-- ---- turns

-- the end follows none but the answered close
pub end_is_done : (answer : Turn) → next_after answer ≡ End → answer ≡ Done
end_is_done Took e = cc
end_is_done (Lost loss) e = cc
end_is_done Answered e = cc
end_is_done Held e = cc
end_is_done Idle e = cc
end_is_done Done e = refl

-- the driver and the side after one turn
abbrev pub after_one : Setup → Words → World → World
after_one setup words world =
    let turned = turn_of setup words world in record { driver = turned.driver; side = turned.side }

same_then : (a b c : Working) → IsSame a b → IsSame b c → IsSame a c
same_then a b c p q = record { setup = q.setup ∙ p.setup; fixed = q.fixed ∙ p.fixed; buckets = q.buckets ∙ p.buckets }

one_over : (setup other : Setup) (words : Words) (before after earlier : World)
    → after ≡ after_one other words before → other ≡ setup → before ≡ earlier → after ≡ after_one setup words earlier
one_over setup other words before after earlier e s w =
    subst (λ (x : World). after ≡ after_one setup words x) w (subst (λ (u : Setup). after ≡ after_one u words before) s e)

turned_world : (before after : Working) (said : Turn) (t : TookTurn before said after) → world_in after ≡ after_one before.lane.setup t.words (world_in before)
turned_world before after said t = λ i. record { driver = t.step.1 i; side = t.step.2 i }

-- one more
pub one_more : (first before after : Working) (said : Turn) → IsLater first before → TookTurn before said after → IsLater first after
one_more first before after said later t = record {
  words = t.words ∷ later.words;
  turns = one_over first.lane.setup before.lane.setup t.words (world_in before) (world_in after) (after_turns first.lane.setup later.words (world_in first))
      (turned_world before after said t) later.same.setup later.turns;
  same = same_then first before after later.same t.same;
}

turns_append : (setup : Setup) (more words : List Words) (world : World) → after_turns setup (more ++ words) world ≡ after_turns setup more (after_turns setup words world)
turns_append setup [] words world = refl
turns_append setup (w ∷ more) words world = ap (λ (x : World). after_one setup w x) (turns_append setup more words world)

turns_over : (setup other : Setup) (more words : List Words) (first before after : World)
    → after ≡ after_turns other more before → other ≡ setup → before ≡ after_turns setup words first → after ≡ after_turns setup (more ++ words) first
turns_over setup other more words first before after e s w =
    subst (λ (x : World). after ≡ after_turns setup more x) w (subst (λ (u : Setup). after ≡ after_turns u more before) s e) ∙ sym (turns_append setup more words first)

-- some turns, and then some more
later_then : (first before after : Working) → IsLater first before → IsLater before after → IsLater first after
later_then first before after p q = record {
  words = q.words ++ p.words;
  turns = turns_over first.lane.setup before.lane.setup q.words p.words (world_in first) (world_in before) (world_in after) q.turns p.same.setup p.turns;
  same = same_then first before after p.same q.same;
}

ended_then : (first before after : Working) → IsLater first before → IsEnded before after → IsEnded first after
ended_then first before after p q = record { later = later_then first before after p q.later; done = q.done }

-- a lane that is here, after some turns, and then ended
pub ended_here : (first here end : Working) (runner : Runner) → runner ≡ Here here → IsEnded here end → Runs first runner → IsEnded first end
ended_here first here end runner is ends runs = ended_then first here end (subst (λ (r : Runner). Runs first r) is runs) ends

-- a runner that is stepped runs the same work
step_runs : (work : Working) (before after : Runner) → TookStep before after → Runs work before → Runs work after
step_runs work (Away handle) after step runs = subst (λ (r : Runner). Runs work r) (sym step) runs
step_runs work (Here here) (Away handle) step runs = absurd step
step_runs work (Here here) (Here after) step runs = one_more work here after step.0 runs step.1

-- ---- runners stepped one by one

-- so many were stepped, and the others are as they were
abbrev pub AreStepped : ℕ → List Runner → List Runner → Type 0
AreStepped zero before after = after ≡ before
AreStepped (suc n) [] [] = Unit {0}
AreStepped (suc n) [] (y ∷ ys) = ⊥
AreStepped (suc n) (x ∷ xs) [] = ⊥
AreStepped (suc n) (x ∷ xs) (y ∷ ys) = TookStep x y × AreStepped n xs ys

-- one more
pub stepped_set : (n : ℕ) (before after : List Runner) (old new : Runner)
    → old ≡ slice_index_or after n old → TookStep old new → AreStepped n before after → AreStepped (suc n) before (slice_set after n new)
stepped_set zero before [] old new e step all = subst (λ (b : List Runner). AreStepped (suc zero) b []) all tt
stepped_set zero before (y ∷ ys) old new e step all =
    subst (λ (b : List Runner). AreStepped (suc zero) b (new ∷ ys)) all (subst (λ (r : Runner). TookStep r new) e step, refl)
stepped_set (suc n) [] [] old new e step all = tt
stepped_set (suc n) [] (y ∷ ys) old new e step all = absurd all
stepped_set (suc n) (x ∷ xs) [] old new e step all = absurd all
stepped_set (suc n) (x ∷ xs) (y ∷ ys) old new e step all = (all.0, stepped_set n xs ys old new e step all.1)

all_of : (before after : List Runner) → AreStepped (length before) before after → Pairwise TookStep before after
all_of [] [] all = tt
all_of [] (y ∷ ys) all = absurd cc
all_of (x ∷ xs) [] all = absurd all
all_of (x ∷ xs) (y ∷ ys) all = (all.0, all_of xs ys all.1)

-- all
pub all_stepped : (n : ℕ) (before after : List Runner) → n ≡ length before → AreStepped n before after → Pairwise TookStep before after
all_stepped n before after e all = all_of before after (subst (λ (m : ℕ). AreStepped m before after) e all)

-- they run what they ran
pub stepped_run : (works : List Working) (before after : List Runner) → Pairwise TookStep before after → Pairwise Runs works before → Pairwise Runs works after
stepped_run works before after steps runs = pairs_then Runs TookStep Runs works before after (λ work old new r s. step_runs work old new s r) runs steps
