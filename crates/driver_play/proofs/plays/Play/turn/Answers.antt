use Rattle.driver_play.proofs.plays.Play.turn.Goals as goal

pub turn-requires-clause-room : goal.turn-requires-clause-room
turn-requires-clause-room c =
    let s = c.self.inside.side in
    c.running_has_room.ensures c.self.inside.requests c.self.inside.lane s.seen s.far s.fixed c.self.invariant.runs
