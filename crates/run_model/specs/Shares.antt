-- What a record says of one processor, the parts of a run, and what the statistics have to do with
-- the record.
use Rattle.std.specs.Prelude.{◌≡◌, ℕ, ◌+◌, ◌==◌, ◌&&◌, Bool, if◌then◌else◌, List, [], ◌∷◌, length, map, filter, count_by, slice_index_or}
use Rattle.sample_key.specs.Bags.{batched, batched_upto}
use Rattle.sample_key.specs.Sent.{Sent}
use Rattle.sample_key.specs.declared.keys.Key.{Key}
use Rattle.sample_key.specs.declared.losses.Loss.{Loss}
use Rattle.trace_model.specs.declared.notices.Record.{Record}
use Rattle.trace_model.specs.Parts.{ends_part, part_of}
use Rattle.driver_model.specs.Invariant.{entries_of}
use Rattle.driver_model.specs.declared.plans.Stats.{Stats}
use Rattle.database_model.specs.Runs.{Drained, Segment, Recorded}

-- whether a drain is of this cell of this processor
abbrev pub is_of : ℕ → ℕ → Drained → Bool
is_of cpu cell drain = drain.batch.note.cpu == cpu && drain.batch.note.cell == cell

-- the drains of a cell of a processor, in order
abbrev pub drains_of : ℕ → ℕ → List Drained → List Drained
drains_of cpu cell [] = []
drains_of cpu cell (drain ∷ drains) =
    if is_of cpu cell drain then drain ∷ drains_of cpu cell drains else drains_of cpu cell drains

-- the batches drained
abbrev pub batches_in : List Drained → List Sent
batches_in drains = map (λ drain. drain.batch) drains

-- a processor's share of a record: the drains of buffer 0, of buffer 1 and of the table, and the
-- losses
pub record Share : Type 0 where
  pub first : List Drained
  pub second : List Drained
  pub third : List Drained
  pub losses : List Loss

-- the share of this processor, with these losses
abbrev pub share_in : List Drained → List Loss → ℕ → Share
share_in drains losses cpu = record {
  first = drains_of cpu 0 drains;
  second = drains_of cpu 1 drains;
  third = drains_of cpu 2 drains;
  losses = losses;
}

-- the share of this processor
abbrev pub share_of : Recorded → ℕ → Share
share_of kept cpu = share_in kept.drains (slice_index_or kept.losses cpu []) cpu

-- how often the drained batches count a key
abbrev pub drained_weight : Key → Share → ℕ
drained_weight key share =
    batched key (batches_in share.first) + batched key (batches_in share.second)
    + batched key (batches_in share.third)

-- the same, of the batches that go up to at most so many samples
abbrev pub drained_upto : Key → ℕ → Share → ℕ
drained_upto key count share =
    batched_upto key count (batches_in share.first)
    + batched_upto key count (batches_in share.second)
    + batched_upto key count (batches_in share.third)

-- the last part of a run
abbrev pub last_part : List Record → ℕ
last_part records = count_by ends_part records

-- the drains of a part
abbrev pub drains_in_part : List Record → ℕ → List Drained → List Drained
drains_in_part records part drains = filter (λ drain. part_of records drain.at == part) drains

-- what is stored of a part: its drains, and in the last part the losses
abbrev pub segment_of : List Record → Recorded → ℕ → Segment
segment_of records kept part = record {
  run = kept.run;
  part = part;
  last = part == last_part records;
  first_epoch = kept.first_epoch;
  drains = drains_in_part records part kept.drains;
  losses = if part == last_part records then kept.losses else [];
}

-- a processor's statistics agree with its share of the record: the entries of tables and of
-- buffers, and all samples that were not lost
pub record AgreesWith (samples : ℕ) (share : Share) (stats : Stats) : Type 0 where
  pub placed : stats.placed ≡ entries_of (batches_in share.third)
  pub written : stats.evicted + stats.spilt + stats.direct
      ≡ entries_of (batches_in share.first) + entries_of (batches_in share.second)
  pub all : stats.folded + stats.placed + stats.evicted + stats.spilt + stats.direct
      + length share.losses
      ≡ samples
