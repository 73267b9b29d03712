-- A lane as contracts see it, and the fields of its structs as the definitions of the driver see them.
use Rattle.std.specs.Prelude.{◌≡◌, ℕ, ◌≤◌, length, vec_capacity, List, IfSome}
use Rattle.sample_key.specs.declared.keys.Marked.{Marked}
use Rattle.driver_model.specs.declared.plans.Plan.{Plan}
use Rattle.driver_model.specs.Driver.{Setup, Driver}
use Rattle.overflow_pair.specs.Pairs.{buffers_of}
use Rattle.cpu_lane.specs.declared.drivers.Setup as made
use Rattle.cpu_lane.specs.declared.drivers.Driver as held

-- a lane as contracts see it: what it was made for, and the state of the driver
pub record Seen : Type 0 where
  pub setup : Setup
  pub driver : Driver

-- a lane of this processor, with these samples and this plan
abbrev pub made_for : ℕ → List Marked → Plan → Setup
made_for cpu samples plan = record { cpu = cpu; samples = samples; pace = plan.pace; last = plan.last; size = plan.buffer }

-- what the lane was made for
abbrev pub setup_of : made.Setup → Setup
setup_of setup = made_for setup.cpu setup.samples.items setup.plan

-- the state
abbrev pub driver_of : held.Driver → Driver
driver_of driver = record {
  at = driver.at;
  table = driver.table;
  pair = buffers_of driver.pair;
  tables = driver.tables;
  answered = driver.answered;
  done = driver.done;
  losses = driver.losses.items;
  stats = driver.stats;
}

-- there is room for every possible loss, and the active buffer is of the size that it was made with
pub record IsSound (setup : made.Setup) (driver : held.Driver) : Type 0 where
  pub room : length setup.samples.items ≤ vec_capacity driver.losses
  pub active : IfSome driver.pair.active (λ b. b.size ≡ setup.plan.buffer)
