use Rattle.std.proofs.Common.{◌≡◌, ℕ, ◌+◌, ◌/◌, ◌%◌, ◌<◌, ◌≤◌, List, length, sym, ◌∙◌, Bool, true, false, eqb}
use Rattle.std.specs.Prelude.{is_some, IfSome}
use Rattle.sample_key.specs.Marks.{due}
use Rattle.sample_key.specs.Sent.{Sent}
use Rattle.driver_model.specs.Lists.{Each, AllOf}
use Rattle.driver_model.specs.Table.{IsTable, FitsTable}
use Rattle.driver_model.specs.Sides.{Side}
use Rattle.driver_model.specs.Driver.{Setup, Driver}
use Rattle.driver_model.specs.Invariant.{IsConserved, AreWholeFlushes, IsBounded, InOrder, FullOrCut, WasOut, is_active, LossesInOrder, last_answer, IsExact, table_entries, active_entries, entries_of, DriverInvariant}

-- The invariant of a driver that has not answered the close, as it stands within a turn: short batches are cut by one of
-- these table batches, and the active buffer has at least and fewer than so many entries.
pub record Loose (tables : List Sent) (least most : ℕ) (u : Setup) (d : Driver) (v : Side) : Type 0 where
  pub conserved : IsConserved u d v
  pub flushes : AreWholeFlushes u d v
  pub bounded : IsBounded u d v
  pub order0 : InOrder v.first.handed
  pub order1 : InOrder v.second.handed
  pub order2 : InOrder v.third.handed
  pub sizes0 : AllOf (FullOrCut 0 u.size tables) v.first.handed
  pub sizes1 : AllOf (FullOrCut 1 u.size tables) v.second.handed
  pub fits : AllOf (λ b. FitsTable v.buckets b.entries) v.third.handed
  pub explained : AllOf (λ l. WasOut v.first.handed l.index l.word0 × WasOut v.second.handed l.index l.word1) d.losses
  pub holds0 : v.first.holds ≡ is_active d.pair 0
  pub holds1 : v.second.holds ≡ is_active d.pair 1
  pub holds2 : v.third.holds ≡ is_some d.table
  pub table : IfSome d.table (IsTable v.buckets)
  pub active : IfSome d.pair.active (λ es. (least ≤ length es) × (length es < most))
  pub buckets : 1 ≤ v.buckets
  pub buffer : 1 ≤ v.buffer
  pub turn : v.turn < 4
  pub number : d.pair.active_number ≤ 1
  pub next : d.pair.next ≤ 1
  pub hands0 : d.pair.hands0 ≡ length v.first.handed
  pub hands1 : d.pair.hands1 ≡ length v.second.handed
  pub hands2 : d.tables ≡ length v.third.handed
  pub at : d.at ≤ due u.samples (v.heard / 2)
  pub upto0 : AllOf (λ b. b.note.upto ≤ d.at) v.first.handed
  pub upto1 : AllOf (λ b. b.note.upto ≤ d.at) v.second.handed
  pub upto2 : AllOf (λ b. b.note.upto ≤ d.at) v.third.handed
  pub in_order : LossesInOrder u d
  pub rise : Each (λ done b. (b.note.answers % 2 ≡ 1) × AllOf (λ a. a.note.answers < b.note.answers) done) v.third.handed
  pub last : last_answer 0 v.third.handed ≡ d.answered
  pub heard : d.answered ≤ v.heard
  pub placed : d.stats.placed ≡ entries_of v.third.handed + length (table_entries d.table)
  pub written : d.stats.evicted + d.stats.spilt + d.stats.direct
      ≡ entries_of v.first.handed + entries_of v.second.handed + length (active_entries d.pair.active)
  pub all : d.stats.folded + d.stats.placed + d.stats.evicted + d.stats.spilt + d.stats.direct + length d.losses ≡ d.at
  pub exact : IsExact u d v u.pace
  pub going : d.done ≡ false
  pub answered : eqb d.answered u.last ≡ false

-- within a turn
pub loose_of : (u : Setup) (d : Driver) (v : Side) → DriverInvariant u d v → d.done ≡ false → Loose v.third.handed 1 v.buffer u d v
loose_of u d v i going = record {
  conserved = i.conserved;
  flushes = i.flushes;
  bounded = i.bounded;
  order0 = i.well_formed.order0;
  order1 = i.well_formed.order1;
  order2 = i.well_formed.order2;
  sizes0 = i.well_formed.sizes0;
  sizes1 = i.well_formed.sizes1;
  fits = i.well_formed.tables;
  explained = i.well_formed.losses;
  holds0 = i.in_step.holds0;
  holds1 = i.in_step.holds1;
  holds2 = i.in_step.holds2;
  table = i.in_step.table;
  active = i.in_step.active;
  buckets = i.in_step.buckets;
  buffer = i.in_step.buffer;
  turn = i.in_step.turn;
  number = i.in_step.number;
  next = i.in_step.next;
  hands0 = i.in_step.hands0;
  hands1 = i.in_step.hands1;
  hands2 = i.in_step.hands2;
  at = i.in_range.at;
  upto0 = i.in_range.upto0;
  upto1 = i.in_range.upto1;
  upto2 = i.in_range.upto2;
  in_order = i.losses_in_order;
  rise = i.answers_rise.rise;
  last = i.answers_rise.last;
  heard = i.answers_rise.heard;
  placed = i.counted.placed;
  written = i.counted.written;
  all = i.counted.all;
  exact = i.exact;
  going = going;
  answered = sym i.closed.done ∙ going;
}

-- after a turn that did not answer the close
pub strict_of : (u : Setup) (d : Driver) (v : Side) → Loose v.third.handed 1 v.buffer u d v → DriverInvariant u d v
strict_of u d v i = record {
  conserved = i.conserved;
  flushes = i.flushes;
  bounded = i.bounded;
  well_formed = record { order0 = i.order0; order1 = i.order1; order2 = i.order2; sizes0 = i.sizes0; sizes1 = i.sizes1; tables = i.fits; losses = i.explained };
  in_step = record {
    holds0 = i.holds0;
    holds1 = i.holds1;
    holds2 = i.holds2;
    table = i.table;
    active = i.active;
    buckets = i.buckets;
    buffer = i.buffer;
    turn = i.turn;
    number = i.number;
    next = i.next;
    hands0 = i.hands0;
    hands1 = i.hands1;
    hands2 = i.hands2;
  };
  in_range = record { at = i.at; upto0 = i.upto0; upto1 = i.upto1; upto2 = i.upto2 };
  losses_in_order = i.in_order;
  answers_rise = record { rise = i.rise; last = i.last; heard = i.heard };
  counted = record { placed = i.placed; written = i.written; all = i.all };
  exact = i.exact;
  closed = record { done = i.going ∙ sym i.answered; end = λ e. absurd (true_false e i.going) };
}
  where
    true_false : {b : Bool} → b ≡ true → b ≡ false → ⊥
    true_false e f = let g : true ≡ false = sym e ∙ f in cc
