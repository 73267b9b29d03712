-- What each call adds to those numbers.
use Rattle.std.specs.Prelude.{ℕ, ◌+◌, ◌==◌, if◌then◌else◌, [], ◌∷◌, ◌++◌}
use Rattle.lane_side.specs.Tallies.{Tallies}
use Rattle.lane_side.specs.declared.call_log.Call.{Call}
use Rattle.lane_side.specs.declared.call_log.Call.TheVariants.{Hear, Try, Pass, Ring, Handed, Taken}

-- the numbers after one call more
abbrev pub stepped : Tallies → Tallies
stepped tallies = record tallies { steps = tallies.steps + 1 }

-- the numbers after a cell was looked at or polled with this word
abbrev pub tried : Tallies → ℕ → ℕ → Tallies
tried tallies cell word =
    if cell == 0 then record (stepped tallies) { tries0 = tallies.tries0 + 1; read0 = word }
    else if cell == 1 then record (stepped tallies) { tries1 = tallies.tries1 + 1; read1 = word }
    else record (stepped tallies) { tries2 = tallies.tries2 + 1; read2 = word }

-- the numbers after a call
abbrev pub tallied : Tallies → Call → Tallies
tallied tallies (Hear bell) =
    record (stepped tallies) { hears = tallies.hears + 1; heard = bell }
tallied tallies (Try cell word) = tried tallies cell word
tallied tallies Pass = stepped tallies
tallied tallies (Ring value) =
    record (stepped tallies) { rung_at = tallies.tries0; rungs = tallies.rungs ++ value ∷ [] }
tallied tallies (Handed table) = record tallies { turn = table.value.turn }
tallied tallies (Taken table) = record tallies { far_turn = table.value.turn }
