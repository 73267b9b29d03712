-- What a poll of the daemon makes of a processor: over a plain side it is that poll of the run.
use Rattle.std.proofs.Common.{◌≡◌, refl, sym, ◌∙◌, ap, subst, ℕ, zero, suc, ◌+◌, ◌%◌, ◌≤◌, List, [], ◌∷◌, ◌++◌, length, arith, Some, None, ◌⊎◌, inl, inr}
use Rattle.std.specs.Prelude.{slice_get}
use Rattle.sample_key.specs.Sent.{Sent}
use Rattle.sample_key.specs.declared.keys.Marked.{Marked}
use Rattle.driver_model.specs.Driver.{Driver}
use Rattle.driver_model.specs.Sides.{Side}
use Rattle.driver_model.specs.Runs.{word_of}
use Rattle.driver_model.specs.Handover.{FarSide, given_of, side_called, side_poll_buffer, side_poll_table, far_took_table, far_gave_table, WasRung}
use Rattle.lane_side.specs.Plain.{Plain}
use Rattle.run_model.specs.Running.{Processor, counts_of, waiting_at, poll_buffer, poll_table, polled}
use Rattle.run_laws.proofs.Basics.{IsFront}
use Rattle.cpu_lane.specs.Runs.{HasLeft}
use Rattle.dcpid_core.specs.Flushes.{flush_took}
use Rattle.dcpid_core.specs.Counting.{Agrees, CountsAgree}
use Rattle.dcpid_core.specs.Collection.{Collection}
use Rattle.dcpid_core.specs.Polling.{Polls, TookBuffer, TookTable, BufferHome, TableHome, drained, passed}
use Rattle.dcpid_core.specs.declared.flushes.Flush.{Flush}
use Rattle.dcpid_core.specs.declared.polled.Polled.{Polled}
use Rattle.dcpid_core.specs.declared.polled.Polled.TheVariants.{Drained, Passed, Home}
use Rattle.replay_drive.specs.Players.{IsGivenBack}
use Rattle.replay_drive.proofs.Playing.{processor_with, same_processor}
use Rattle.replay_drive.proofs.Waiting.{told_at, waits, rests}

-- a batch waited in this cell, and the poll took it
pub record PolledSome (cell : ℕ) (l : Driver) (s n : Plain) (batch : Sent) : Type 0 where
  pub waits : waiting_at (processor_with l s.seen s.far) cell ≡ Some batch
  pub polls : processor_with l n.seen n.far ≡ polled (processor_with l s.seen s.far) cell
  pub answers : WasRung batch.note.answers s.far.rungs
  pub rungs : n.far.rungs ≡ s.far.rungs
  pub left : (requests : ℕ) (samples : List Marked) → HasLeft requests samples s.seen → HasLeft requests samples n.seen
  pub counts : CountsAgree → (value : ℕ) (flush : Flush) → batch.note.answers ≤ value → Agrees value flush s.far → Agrees value (flush_took value flush cell batch.note) n.far

-- none waited
pub record PolledNone (cell : ℕ) (l : Driver) (s n : Plain) : Type 0 where
  pub waits : waiting_at (processor_with l s.seen s.far) cell ≡ None
  pub polls : processor_with l n.seen n.far ≡ polled (processor_with l s.seen s.far) cell
  pub left : (requests : ℕ) (samples : List Marked) → HasLeft requests samples s.seen → HasLeft requests samples n.seen
  pub stays : n.far ≡ s.far

-- buffer 0
pub took_first : (l : Driver) (s n : Plain) (batch : Sent) → IsGivenBack s.far → IsFront s.far.first.taken s.seen.first.handed
    → TookBuffer 0 s.fixed s.seen s.far n.seen n.far batch → PolledSome 0 l s n batch
took_first l s n batch back front took =
    let word : n.seen.first.read ≡ length s.seen.first.handed + length s.far.first.taken =
    told_at (λ given. n.seen.first.read ≡ word_of s.seen.first (given_of given 0)) s.far.given (counts_of s.far) back.given took.told in
    let last = told_at (λ given. (front : List Sent) × (s.seen.first.handed ≡ front ++ batch ∷ [])) s.far.given (counts_of s.far) back.given took.last in
    let odd : (length s.seen.first.handed + length s.far.first.taken) % 2 ≡ 1 = subst (λ (k : ℕ). k % 2 ≡ 1) word took.odd in
    let there : slice_get s.seen.first.handed (length s.far.first.taken) ≡ Some batch = waits s.far.first.taken s.seen.first.handed last.0 batch front odd last.1 in
    record {
      waits = there;
      polls = same_processor refl (took.side ∙ ap (λ k. side_called (side_poll_buffer s.seen 0 k)) word) took.taken
          ∙ ap {B = Processor} (poll_buffer (processor_with l s.seen s.far) 0 (length s.seen.first.handed + length s.far.first.taken)) (sym there);
      answers = inl took.answers;
      rungs = ap (λ (f : FarSide). f.rungs) took.taken;
      left = λ requests samples h. subst (λ (v : Side). HasLeft requests samples v) (sym took.side) h;
      counts = λ laws value flush le agrees. subst (λ (f : FarSide). Agrees value (flush_took value flush 0 batch.note) f) (sym took.taken)
          (laws.took_buffer value 0 flush s.far batch (omega arith) took.counter agrees);
    }

pub home_first : (l : Driver) (s n : Plain) (word : ℕ) → IsGivenBack s.far → IsFront s.far.first.taken s.seen.first.handed
    → BufferHome 0 s.seen s.far n.seen n.far word → PolledNone 0 l s n
home_first l s n word back front home =
    let is : word ≡ length s.seen.first.handed + length s.far.first.taken =
    told_at (λ given. word ≡ word_of s.seen.first (given_of given 0)) s.far.given (counts_of s.far) back.given home.told in
    let even : (length s.seen.first.handed + length s.far.first.taken) % 2 ≡ 0 = subst (λ (k : ℕ). k % 2 ≡ 0) is home.even in
    let none : slice_get s.seen.first.handed (length s.far.first.taken) ≡ None = rests s.far.first.taken s.seen.first.handed front even in
    record {
      waits = none;
      polls = same_processor refl (home.side ∙ ap (side_poll_buffer s.seen 0) is) home.stays
          ∙ ap {B = Processor} (poll_buffer (processor_with l s.seen s.far) 0 (length s.seen.first.handed + length s.far.first.taken)) (sym none);
      left = λ requests samples h. subst (λ (v : Side). HasLeft requests samples v) (sym home.side) h;
      stays = home.stays;
    }

-- buffer 1
pub took_second : (l : Driver) (s n : Plain) (batch : Sent) → IsGivenBack s.far → IsFront s.far.second.taken s.seen.second.handed
    → TookBuffer 1 s.fixed s.seen s.far n.seen n.far batch → PolledSome 1 l s n batch
took_second l s n batch back front took =
    let word : n.seen.second.read ≡ length s.seen.second.handed + length s.far.second.taken =
    told_at (λ given. n.seen.second.read ≡ word_of s.seen.second (given_of given 1)) s.far.given (counts_of s.far) back.given took.told in
    let last = told_at (λ given. (front : List Sent) × (s.seen.second.handed ≡ front ++ batch ∷ [])) s.far.given (counts_of s.far) back.given took.last in
    let odd : (length s.seen.second.handed + length s.far.second.taken) % 2 ≡ 1 = subst (λ (k : ℕ). k % 2 ≡ 1) word took.odd in
    let there : slice_get s.seen.second.handed (length s.far.second.taken) ≡ Some batch = waits s.far.second.taken s.seen.second.handed last.0 batch front odd last.1 in
    record {
      waits = there;
      polls = same_processor refl (took.side ∙ ap (λ k. side_called (side_poll_buffer s.seen 1 k)) word) took.taken
          ∙ ap {B = Processor} (poll_buffer (processor_with l s.seen s.far) 1 (length s.seen.second.handed + length s.far.second.taken)) (sym there);
      answers = inl took.answers;
      rungs = ap (λ (f : FarSide). f.rungs) took.taken;
      left = λ requests samples h. subst (λ (v : Side). HasLeft requests samples v) (sym took.side) h;
      counts = λ laws value flush le agrees. subst (λ (f : FarSide). Agrees value (flush_took value flush 1 batch.note) f) (sym took.taken)
          (laws.took_buffer value 1 flush s.far batch (omega arith) took.counter agrees);
    }

pub home_second : (l : Driver) (s n : Plain) (word : ℕ) → IsGivenBack s.far → IsFront s.far.second.taken s.seen.second.handed
    → BufferHome 1 s.seen s.far n.seen n.far word → PolledNone 1 l s n
home_second l s n word back front home =
    let is : word ≡ length s.seen.second.handed + length s.far.second.taken =
    told_at (λ given. word ≡ word_of s.seen.second (given_of given 1)) s.far.given (counts_of s.far) back.given home.told in
    let even : (length s.seen.second.handed + length s.far.second.taken) % 2 ≡ 0 = subst (λ (k : ℕ). k % 2 ≡ 0) is home.even in
    let none : slice_get s.seen.second.handed (length s.far.second.taken) ≡ None = rests s.far.second.taken s.seen.second.handed front even in
    record {
      waits = none;
      polls = same_processor refl (home.side ∙ ap (side_poll_buffer s.seen 1) is) home.stays
          ∙ ap {B = Processor} (poll_buffer (processor_with l s.seen s.far) 1 (length s.seen.second.handed + length s.far.second.taken)) (sym none);
      left = λ requests samples h. subst (λ (v : Side). HasLeft requests samples v) (sym home.side) h;
      stays = home.stays;
    }

-- the table
pub took_third : (l : Driver) (s n : Plain) (batch : Sent) → IsGivenBack s.far → IsFront s.far.third.taken s.seen.third.handed
    → TookTable s.fixed s.seen s.far n.seen n.far batch → PolledSome 2 l s n batch
took_third l s n batch back front took =
    let word : n.seen.third.read ≡ length s.seen.third.handed + length s.far.third.taken =
    told_at (λ given. n.seen.third.read ≡ word_of s.seen.third given.third) s.far.given (counts_of s.far) back.given took.told in
    let last = told_at (λ given. (front : List Sent) × (s.seen.third.handed ≡ front ++ batch ∷ [])) s.far.given (counts_of s.far) back.given took.last in
    let turn : took.turn ≡ s.seen.turn = told_at (λ given. took.turn ≡ s.seen.turn) s.far.given (counts_of s.far) back.given took.handed_turn in
    let odd : (length s.seen.third.handed + length s.far.third.taken) % 2 ≡ 1 = subst (λ (k : ℕ). k % 2 ≡ 1) word took.odd in
    let there : slice_get s.seen.third.handed (length s.far.third.taken) ≡ Some batch = waits s.far.third.taken s.seen.third.handed last.0 batch front odd last.1 in
    record {
      waits = there;
      polls = same_processor refl (took.side ∙ ap (λ k. side_called (side_poll_table s.seen k)) word)
          (took.taken ∙ ap (λ k. far_gave_table (far_took_table s.far batch k)) turn)
          ∙ ap {B = Processor} (poll_table (processor_with l s.seen s.far) (length s.seen.third.handed + length s.far.third.taken)) (sym there);
      answers = took.answers;
      rungs = ap (λ (f : FarSide). f.rungs) took.taken;
      left = λ requests samples h. subst (λ (v : Side). HasLeft requests samples v) (sym took.side) h;
      counts = λ laws value flush le agrees. subst (λ (f : FarSide). Agrees value (flush_took value flush 2 batch.note) f) (sym took.taken)
          (laws.took_table value took.turn flush s.far batch took.counter le agrees);
    }

pub home_third : (l : Driver) (s n : Plain) (word : ℕ) → IsGivenBack s.far → IsFront s.far.third.taken s.seen.third.handed
    → TableHome s.seen s.far n.seen n.far word → PolledNone 2 l s n
home_third l s n word back front home =
    let is : word ≡ length s.seen.third.handed + length s.far.third.taken =
    told_at (λ given. word ≡ word_of s.seen.third given.third) s.far.given (counts_of s.far) back.given home.told in
    let even : (length s.seen.third.handed + length s.far.third.taken) % 2 ≡ 0 = subst (λ (k : ℕ). k % 2 ≡ 0) is home.even in
    let none : slice_get s.seen.third.handed (length s.far.third.taken) ≡ None = rests s.far.third.taken s.seen.third.handed front even in
    record {
      waits = none;
      polls = same_processor refl (home.side ∙ ap (side_poll_table s.seen) is) home.stays
          ∙ ap {B = Processor} (poll_table (processor_with l s.seen s.far) (length s.seen.third.handed + length s.far.third.taken)) (sym none);
      left = λ requests samples h. subst (λ (v : Side). HasLeft requests samples v) (sym home.side) h;
      stays = home.stays;
    }

-- a batch was noted, or passed over
abbrev pub TakenBy : ℕ → ℕ → Sent → Collection → Collection → Type 0
TakenBy cpu cell batch d e = ((d.failure ≡ None) × (e ≡ drained cpu cell batch d)) ⊎ (e ≡ passed cpu cell batch d)

-- what a poll of a cell did
abbrev pub PollStep : ℕ → ℕ → Driver → Plain → Plain → Collection → Collection → Type 0
PollStep cpu cell l s n d e = (PolledNone cell l s n × (e ≡ d)) ⊎ ((batch : Sent) × PolledSome cell l s n batch × TakenBy cpu cell batch d e)

pub polls_as : (cpu cell : ℕ) (l : Driver) (s n : Plain) (d e : Collection) (answer : Polled) → cell ≤ 2 → IsGivenBack s.far
    → IsFront s.far.first.taken s.seen.first.handed → IsFront s.far.second.taken s.seen.second.handed → IsFront s.far.third.taken s.seen.third.handed
    → Polls cpu cell s.fixed d s.seen s.far answer e n.seen n.far → PollStep cpu cell l s n d e
polls_as cpu zero l s n d e Drained le back f0 f1 f2 h = inr (h.0, took_first l s n h.0 back f0 h.1, inl h.2)
polls_as cpu zero l s n d e Passed le back f0 f1 f2 h = inr (h.0, took_first l s n h.0 back f0 h.1, inr h.2)
polls_as cpu zero l s n d e (Home word) le back f0 f1 f2 h = inl (home_first l s n word back f0 h.0, h.1)
polls_as cpu (suc zero) l s n d e Drained le back f0 f1 f2 h = inr (h.0, took_second l s n h.0 back f1 h.1, inl h.2)
polls_as cpu (suc zero) l s n d e Passed le back f0 f1 f2 h = inr (h.0, took_second l s n h.0 back f1 h.1, inr h.2)
polls_as cpu (suc zero) l s n d e (Home word) le back f0 f1 f2 h = inl (home_second l s n word back f1 h.0, h.1)
polls_as cpu (suc (suc zero)) l s n d e Drained le back f0 f1 f2 h = inr (h.0, took_third l s n h.0 back f2 h.1, inl h.2)
polls_as cpu (suc (suc zero)) l s n d e Passed le back f0 f1 f2 h = inr (h.0, took_third l s n h.0 back f2 h.1, inr h.2)
polls_as cpu (suc (suc zero)) l s n d e (Home word) le back f0 f1 f2 h = inl (home_third l s n word back f2 h.0, h.1)
polls_as cpu (suc (suc (suc cell))) l s n d e answer le back f0 f1 f2 h = absurd (omega (arith, le))
