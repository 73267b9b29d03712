-- A turn of one lane among all is that turn of the run.
use Rattle.std.proofs.Common.{sym, ap}
use Rattle.std.proofs.lemmas.Option.{slice_get-get_or}
use Rattle.run_model.specs.Running.{System, after_turn}
use Rattle.replay_drive.specs.Players.{system_of}
use Rattle.replay_drive.proofs.Among.{side_too, player_here, players_with, no_processor, halves_set}
use Rattle.replay_drive.proofs.Playing.{turned_system}
use Rattle.replay_drive.proofs.players.turn_at.Goals as goal

pub returns-then-at-lanes-clause-turned : goal.returns-then-at-lanes-clause-turned
returns-then-at-lanes-clause-turned c = λ pace trace daemon all.
    let none = no_processor c.args.lanes.now c.args.sides.now c.args.cpu c.if-at-lanes.true in
    ap {B = System} (after_turn pace trace (system_of daemon c.args.lanes.now c.args.sides.now) c.args.cpu) (sym none)

pub bounds-sides-at : goal.bounds-sides-at
bounds-sides-at c =
    side_too _ _ 0 c.args.lanes.now c.args.sides.now c.args.cpu c.requires.2 c.if-at-lanes.false

pub turn_of-requires : goal.turn_of-requires
turn_of-requires c =
    let lane = slice_get-get_or c.args.lanes.now c.args.cpu c.index-lanes-at.result c.if-at-lanes.false in
    let side = slice_get-get_or c.args.sides.now c.args.cpu c.index-sides-at.result (side_too _ _ 0 c.args.lanes.now c.args.sides.now c.args.cpu c.requires.2 c.if-at-lanes.false) in
    (c.requires.0, c.requires.1, c.args.cpu, player_here _ _ c.args.lanes.now c.args.sides.now c.args.cpu _ _ c.requires.2 lane side)

pub returns-clause-turned : goal.returns-clause-turned
returns-clause-turned c = λ pace trace daemon all.
    let lane = slice_get-get_or c.args.lanes.now c.args.cpu c.index-lanes-at.result c.if-at-lanes.false in
    let side = slice_get-get_or c.args.sides.now c.args.cpu c.index-sides-at.result (side_too pace trace 0 c.args.lanes.now c.args.sides.now c.args.cpu all c.if-at-lanes.false) in
    let player = player_here pace trace c.args.lanes.now c.args.sides.now c.args.cpu _ _ all lane side in
    turned_system pace trace daemon c.args.lanes.now c.args.sides.now c.args.cpu _ _ _ _ all lane side player c.turn_of.ensures.turned

pub returns-clause-players : goal.returns-clause-players
returns-clause-players c = λ pace trace all.
    let lane = slice_get-get_or c.args.lanes.now c.args.cpu c.index-lanes-at.result c.if-at-lanes.false in
    let side = slice_get-get_or c.args.sides.now c.args.cpu c.index-sides-at.result (side_too pace trace 0 c.args.lanes.now c.args.sides.now c.args.cpu all c.if-at-lanes.false) in
    let player = player_here pace trace c.args.lanes.now c.args.sides.now c.args.cpu _ _ all lane side in
    players_with pace trace c.args.lanes.now c.args.sides.now c.args.cpu _ _ all (c.turn_of.ensures.player pace trace c.args.cpu player)

pub returns-clause-halves : goal.returns-clause-halves
returns-clause-halves c =
    let side = slice_get-get_or c.args.sides.now c.args.cpu c.index-sides-at.result (side_too _ _ 0 c.args.lanes.now c.args.sides.now c.args.cpu c.requires.2 c.if-at-lanes.false) in
    halves_set c.args.sides.now c.args.cpu _ _ side c.turn_of.ensures.half
