-- What a plain side keeps of what was handed.
use Rattle.std.specs.Prelude.{List, [], ◌∷◌, ◌++◌}
use Rattle.sample_key.specs.Sent.{Sent}
use Rattle.driver_model.specs.Sides.{Room, room_less}

-- all batches that were handed, in order, and what may still be handed
pub record HandedSoFar : Type 0 where
  pub sent : List Sent
  pub room : Room

-- nothing was handed yet, and there is this room
abbrev pub none_handed : Room → HandedSoFar
none_handed room = record { sent = []; room = room }

-- one batch more
abbrev pub one_more : HandedSoFar → Sent → HandedSoFar
one_more before batch =
    record { sent = before.sent ++ batch ∷ []; room = room_less before.room batch }
