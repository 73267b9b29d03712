-- The bytes of a segment.
use Rattle.std.specs.Prelude.{ℕ, ◌+◌, ◌*◌, ◌-◌, ◌/◌, ◌%◌, ◌^◌, ◌==◌, Bool, true, false, List, [], map, unwrap_or}
use Rattle.std.specs.List.{fold}
use Rattle.sample_key.specs.declared.events.Event.{Event}
use Rattle.sample_key.specs.declared.events.Event.TheVariants.{Branchmp}
use Rattle.sample_key.specs.declared.keys.Key.{Key}
use Rattle.sample_key.specs.declared.losses.Loss.{Loss}
use Rattle.sample_key.specs.Counted.{Counted, entry}
use Rattle.sample_key.specs.Events.{event_of_code}
use Rattle.var_bytes.specs.Forms.{Form, Done, Field, and_then, repeat, between}
use Rattle.database_model.specs.Runs.{Drained, Segment}
use Rattle.std.proofs.Math.Nat.{mul-mod_right}

-- a number of 32 bits
abbrev pub word32 : ℕ → Bool
word32 n = between 0 (2 ^ 32 - 1) n

-- a number of 64 bits
abbrev pub word64 : ℕ → Bool
word64 n = between 0 (2 ^ 64 - 1) n

-- the event of a code up to 3
abbrev pub event_at : ℕ → Event
event_at code = unwrap_or (event_of_code code) Branchmp

-- the key of a process, the number of an instruction and an event
abbrev pub key_at : ℕ → ℕ → Event → Key
key_at pid position event = record { pid = pid; pc = 4 * position; event = event; aligned = mul-mod_right 4 position }

-- an entry, and whether its place was found
unfoldable pub flagged_entry : Form (Counted × Bool)
flagged_entry =
    Field word32 (λ pid.
    Field (between 0 (2 ^ 62 - 1)) (λ position.
    Field (between 0 7) (λ kind.
    Field (between 1 65535) (λ count.
    Done (entry (key_at pid position (event_at (kind / 2))) count, kind % 2 == 1)))))

-- a drain
unfoldable pub drain : Form Drained
drain =
    Field (between 0 65536) (λ at.
    Field word32 (λ epoch.
    Field (between 0 15) (λ cpu.
    Field (between 0 2) (λ cell.
    Field (between 1 (2 ^ 64 - 1)) (λ number.
    Field (between 0 2000000) (λ upto.
    Field word64 (λ answers.
    Field word64 (λ sent0.
    Field word64 (λ sent1.
    Field (between 0 2000000) (λ count.
    and_then (repeat (λ before. flagged_entry) count []) (λ entries.
    Done (record {
      at = at;
      epoch = epoch;
      batch = record {
        note = record { cpu = cpu; cell = cell; number = number; upto = upto; answers = answers; sent0 = sent0; sent1 = sent1 };
        entries = map (λ e. e.0) entries;
      };
      known = map (λ e. e.1) entries;
    }))))))))))))

-- the least index of the next loss: above that of the loss before it
abbrev pub least_index : List Loss → ℕ
least_index losses = fold (λ before loss. loss.index + 1) 0 losses

-- a loss whose index is not below `least`
unfoldable pub loss_form : ℕ → Form Loss
loss_form least =
    Field (between least 1999999) (λ index.
    Field (between 0 3) (λ code.
    Field word64 (λ word0.
    Field word64 (λ word1.
    Done (record { index = index; event = event_at code; word0 = word0; word1 = word1 })))))

-- a loss behind those before it
abbrev pub next_loss : List Loss → Form Loss
next_loss losses = loss_form (least_index losses)

-- the losses of one processor
unfoldable pub processor : Form (List Loss)
processor = Field (between 0 2000000) (λ count. repeat next_loss count [])

-- the losses of all processors, in the last part alone
unfoldable pub processors : Bool → Form (List (List Loss))
processors false = Done []
processors true = Field (between 1 16) (λ count. repeat (λ before. processor) count [])

-- a segment: the format, which is 1, the run, its part, whether it is the last, the run's first epoch, the drains and the losses
unfoldable pub segment : Form Segment
segment =
    Field (between 1 1) (λ format.
    Field (between 1 (2 ^ 32 - 1)) (λ run.
    Field (between 0 1024) (λ part.
    Field (between 0 1) (λ last.
    Field word32 (λ first_epoch.
    Field word64 (λ count.
    and_then (repeat (λ before. drain) count []) (λ drains.
    and_then (processors (last == 1)) (λ losses.
    Done (record { run = run; part = part; last = last == 1; first_epoch = first_epoch; drains = drains; losses = losses })))))))))
