-- A turn over a plain side is the turn of the run.
use Rattle.run_model.specs.Running.{counts_of}
use Rattle.replay_drive.proofs.Playing.{same_processor}
use Rattle.replay_drive.proofs.players.turn_of.Goals as goal

pub turn-answer-requires-clause-room : goal.turn-answer-requires-clause-room
turn-answer-requires-clause-room c =
    let player = c.requires.3 in
    c.running_has_room.ensures _ _ _ _ _ player.runs

pub returns-clause-turned : goal.returns-clause-turned
returns-clause-turned c =
    let player = c.requires.3 in
    let gives = c.turn-answer.ensures.told (counts_of c.args.side.now.far) player.back.given player.runs.told in
    same_processor gives.1 gives.2 c.turn-answer.ensures.far
