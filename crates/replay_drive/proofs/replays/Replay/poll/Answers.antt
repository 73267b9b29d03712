-- A poll is that step of the run.
use Rattle.std.proofs.Common.{subst, ℕ, ◌<◌, length, arith, refl}
use Rattle.std.proofs.lemmas.Option.{slice_get_read}
use Rattle.dcpid_core.specs.Collection.{IsFitting}
use Rattle.replay_drive.proofs.PollStands.{fits_at}
use Rattle.replay_drive.proofs.StepsTaken.{as_many_sides, evenly, poll_leaves, side_even, taken_past, taken_poll}
use Rattle.replay_drive.proofs.replays.Replay.poll.Goals as goal

pub returns-then-at-len-clause-taken : goal.returns-then-at-len-clause-taken
returns-then-at-len-clause-taken c = λ trace run first_epoch steps taken.
    let next = taken_past trace run first_epoch steps c.args.self.now.lanes.items c.args.self.now.sides.items c.args.self.now.daemon c.args.cpu c.args.cell c.args.self.now.finished
    taken.finished c.requires.going taken.stands (omega (arith, c.len.ensures, c.args.self.now.sides.ok.0, c.if-at-len.true)) in
    record { fit = taken.fit; stands = next.stands; finished = next.finished_is }

pub poll-polled-requires-clause-cpu : goal.poll-polled-requires-clause-cpu
poll-polled-requires-clause-cpu c =
    let taken = c.requires.taken.4 in
    let many = as_many_sides (record { start = c.laws.ensures.start; turn = c.laws.ensures.turn; polls = c.laws.ensures.polls; heard = c.laws.ensures.heard; did = c.laws.ensures.did })
    c.requires.taken.0 c.requires.taken.1 c.requires.taken.2 c.requires.taken.3 c.args.self.now.lanes.items c.args.self.now.sides.items c.args.self.now.daemon taken.fit taken.stands in
    omega (arith, c.len.ensures, c.args.self.now.sides.ok.0, c.if-at-len.false, many)

pub poll-polled-requires-clause-fitting : goal.poll-polled-requires-clause-fitting
poll-polled-requires-clause-fitting c =
    let taken = c.requires.taken.4 in
    let on = slice_get_read c.args.self.now.sides.items (length c.args.self.now.sides.items) c.args.cpu c.index_mut.result.now refl (omega (arith, c.len.ensures, c.args.self.now.sides.ok.0, c.if-at-len.false)) c.index_mut.ensures.value in
    subst (λ (n : ℕ). IsFitting c.args.self.now.daemon n c.index_mut.result.now.fixed c.index_mut.result.now.far) (omega arith)
    (fits_at c.args.self.now.daemon 0 c.args.self.now.sides.items c.args.cpu c.index_mut.result.now taken.stands.fits on)

pub poll-polled-requires-clause-evenly : goal.poll-polled-requires-clause-evenly
poll-polled-requires-clause-evenly c =
    let taken = c.requires.taken.4 in
    let on = slice_get_read c.args.self.now.sides.items (length c.args.self.now.sides.items) c.args.cpu c.index_mut.result.now refl (omega (arith, c.len.ensures, c.args.self.now.sides.ok.0, c.if-at-len.false)) c.index_mut.ensures.value in
    evenly c.min.result c.index_mut.result.now.fixed c.index_mut.result.now.seen
    (side_even c.requires.taken.0 c.args.self.now.lanes.items c.args.self.now.sides.items c.args.cpu c.index_mut.result.now taken.stands.players on)

pub returns-clause-taken : goal.returns-clause-taken
returns-clause-taken c = λ trace run first_epoch steps taken.
    let within : c.args.cpu < length c.args.self.now.sides.items = omega (arith, c.len.ensures, c.args.self.now.sides.ok.0, c.if-at-len.false) in
    let on = slice_get_read c.args.self.now.sides.items (length c.args.self.now.sides.items) c.args.cpu c.index_mut.result.now refl within c.index_mut.ensures.value in
    let next = taken_poll (record { start = c.laws.ensures.start; turn = c.laws.ensures.turn; polls = c.laws.ensures.polls; heard = c.laws.ensures.heard; did = c.laws.ensures.did }) c.laws.ensures.counts
    trace run first_epoch steps c.args.self.now.lanes.items c.args.self.now.sides.items c.args.self.now.daemon c.poll-polled.new.self c.args.cpu c.args.cell c.min.result c.index_mut.result.now c.poll-polled.new.side _ c.args.self.now.finished
    taken.fit c.min.ensures taken.finished c.requires.going taken.stands within on c.poll-polled.ensures.fixed c.poll-polled.ensures.polls in
    record { fit = taken.fit; stands = next.stands; finished = next.finished_is }

pub returns-clause-leaves : goal.returns-clause-leaves
returns-clause-leaves c = λ trace is.
    poll_leaves trace c.args.cpu c.args.cell c.min.result _ c.args.self.now.daemon c.poll-polled.new.self _ _ _ _ _ is c.min.ensures c.poll-polled.ensures.polls
