-- After a poll of each cell all that was handed was taken.
use Rattle.std.proofs.Common.{◌≡◌, ℕ, List, refl, sym, ◌∙◌, subst, Some, None, Option}
use Rattle.sample_key.specs.Sent.{Sent}
use Rattle.run_model.specs.Running.{Processor, words_of, waiting_in, waiting_at, poll_buffer, poll_table, polled}
use Rattle.run_laws.proofs.Basics.{IsFront, front_none, front_some}
use Rattle.run_laws.proofs.Systems.{polls_table, waits_table}
use Rattle.run_rounds.proofs.Own.{polled_all}

-- all that was handed of each cell was taken
pub record IsTaken (processor : Processor) : Type 0 where
  pub first : processor.far.first.taken ≡ processor.side.first.handed
  pub second : processor.far.second.taken ≡ processor.side.second.handed
  pub third : processor.far.third.taken ≡ processor.side.third.handed

-- or all but the last
pub record IsNearlyTaken (processor : Processor) : Type 0 where
  pub first : IsFront processor.far.first.taken processor.side.first.handed
  pub second : IsFront processor.far.second.taken processor.side.second.handed
  pub third : IsFront processor.far.third.taken processor.side.third.handed

-- what a poll of buffer 0 leaves
record AfterFirst (before after : Processor) : Type 0 where
  taken : after.far.first.taken ≡ after.side.first.handed
  driver : after.driver ≡ before.driver
  second_taken : after.far.second.taken ≡ before.far.second.taken
  second_handed : after.side.second.handed ≡ before.side.second.handed
  third_taken : after.far.third.taken ≡ before.far.third.taken
  third_handed : after.side.third.handed ≡ before.side.third.handed

first_polled : (processor : Processor) (word : ℕ) (found : Option Sent) → waiting_in processor.side.first.handed processor.far.first.taken ≡ found
    → IsFront processor.far.first.taken processor.side.first.handed → AfterFirst processor (poll_buffer processor 0 word found)
first_polled processor word None there front = record {
  taken = front_none processor.far.first.taken processor.side.first.handed front there;
  driver = refl;
  second_taken = refl;
  second_handed = refl;
  third_taken = refl;
  third_handed = refl;
}
first_polled processor word (Some batch) there front = record {
  taken = sym (front_some processor.far.first.taken processor.side.first.handed batch front there);
  driver = refl;
  second_taken = refl;
  second_handed = refl;
  third_taken = refl;
  third_handed = refl;
}

-- what a poll of buffer 1 leaves
record AfterSecond (before after : Processor) : Type 0 where
  taken : after.far.second.taken ≡ after.side.second.handed
  driver : after.driver ≡ before.driver
  first_taken : after.far.first.taken ≡ before.far.first.taken
  first_handed : after.side.first.handed ≡ before.side.first.handed
  third_taken : after.far.third.taken ≡ before.far.third.taken
  third_handed : after.side.third.handed ≡ before.side.third.handed

second_polled : (processor : Processor) (word : ℕ) (found : Option Sent) → waiting_in processor.side.second.handed processor.far.second.taken ≡ found
    → IsFront processor.far.second.taken processor.side.second.handed → AfterSecond processor (poll_buffer processor 1 word found)
second_polled processor word None there front = record {
  taken = front_none processor.far.second.taken processor.side.second.handed front there;
  driver = refl;
  first_taken = refl;
  first_handed = refl;
  third_taken = refl;
  third_handed = refl;
}
second_polled processor word (Some batch) there front = record {
  taken = sym (front_some processor.far.second.taken processor.side.second.handed batch front there);
  driver = refl;
  first_taken = refl;
  first_handed = refl;
  third_taken = refl;
  third_handed = refl;
}

-- what a poll of the table leaves
record AfterThird (before after : Processor) : Type 0 where
  taken : after.far.third.taken ≡ after.side.third.handed
  driver : after.driver ≡ before.driver
  first_taken : after.far.first.taken ≡ before.far.first.taken
  first_handed : after.side.first.handed ≡ before.side.first.handed
  second_taken : after.far.second.taken ≡ before.far.second.taken
  second_handed : after.side.second.handed ≡ before.side.second.handed
  third_handed : after.side.third.handed ≡ before.side.third.handed

third_polled : (processor : Processor) (word : ℕ) (found : Option Sent) → waiting_in processor.side.third.handed processor.far.third.taken ≡ found
    → IsFront processor.far.third.taken processor.side.third.handed → AfterThird processor (poll_table processor word found)
third_polled processor word None there front = record {
  taken = front_none processor.far.third.taken processor.side.third.handed front there;
  driver = refl;
  first_taken = refl;
  first_handed = refl;
  second_taken = refl;
  second_handed = refl;
  third_handed = refl;
}
third_polled processor word (Some batch) there front = record {
  taken = sym (front_some processor.far.third.taken processor.side.third.handed batch front there);
  driver = refl;
  first_taken = refl;
  first_handed = refl;
  second_taken = refl;
  second_handed = refl;
  third_handed = refl;
}

-- what a poll of each cell leaves
pub record AfterPolls (before after : Processor) : Type 0 where
  pub taken : IsTaken after
  pub driver : after.driver ≡ before.driver
  pub third : after.side.third.handed ≡ before.side.third.handed

two_fronts : (t h u g : List Sent) → t ≡ u → h ≡ g → IsFront u g → IsFront t h
two_fronts t h u g e f front = subst (λ (z : List Sent). IsFront z h) (sym e) (subst (λ (z : List Sent). IsFront u z) (sym f) front)

pub all_polled : (processor : Processor) → IsNearlyTaken processor → AfterPolls processor (polled_all processor)
all_polled processor front =
    let one = polled processor 0 in
    let two = polled one 1 in
    let a : AfterFirst processor one = first_polled processor (words_of processor).two.first (waiting_in processor.side.first.handed processor.far.first.taken) refl front.first in
    let b : AfterSecond one two =
    second_polled one (words_of one).two.second (waiting_in one.side.second.handed one.far.second.taken) refl
    (two_fronts one.far.second.taken one.side.second.handed processor.far.second.taken processor.side.second.handed a.second_taken a.second_handed front.second) in
    let c : AfterThird two (polled_all processor) =
    subst (λ (p : Processor). AfterThird two p) (sym (polls_table two 0))
    (third_polled two (words_of two).third (waiting_at two 2) (sym (waits_table two 0))
    (two_fronts two.far.third.taken two.side.third.handed processor.far.third.taken processor.side.third.handed
    (b.third_taken ∙ a.third_taken) (b.third_handed ∙ a.third_handed) front.third)) in
    record {
      taken = record {
        first = c.first_taken ∙ b.first_taken ∙ a.taken ∙ sym (c.first_handed ∙ b.first_handed);
        second = c.second_taken ∙ b.taken ∙ sym c.second_handed;
        third = c.taken;
      };
      driver = c.driver ∙ b.driver ∙ a.driver;
      third = c.third_handed ∙ b.third_handed ∙ a.third_handed;
    }
