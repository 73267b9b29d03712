-- A poll of a cell, by what the daemon promises of it.
use Rattle.std.proofs.Common.{arith, ◌≡◌, ℕ, subst, Some, Option}
use Rattle.std.specs.Prelude.{slice_index_or}
use Rattle.std.proofs.lemmas.List.{length-map}
use Rattle.std.proofs.lemmas.Option.{slice_get-get_or}
use Rattle.std.proofs.Math.Seq.{map-set_same}
use Rattle.lane_side.specs.Plain.{Plain}
use Rattle.dcpid_core.specs.Collection.{IsFitting}
use Rattle.dcpid_core.specs.Polling.{CellPollsEvenly}
use Rattle.run_laws.proofs.Systems.{map_got}
use Rattle.replay_drive.proofs.PollStands.{fits_at}
use Rattle.daemon_rounds.proofs.Polling.{poll_on, tried_on, view_of}
use Rattle.daemon_rounds.proofs.polls.poll_cell.Goals as goal

some_view : (o : Option Plain) (a b : Plain) → o ≡ Some a → o ≡ Some b → a ≡ b
some_view o a b e f = cc

pub overflow_cast-cpu : goal.overflow_cast-cpu
overflow_cast-cpu g c =
    let knows = c.requires.going.5 in
    let same = length-map c.args.sides.now (view_of g.T.Endpoint.seen g.T.Endpoint.far g.T.Endpoint.fixed) in
    omega (arith, c.requires.cpu, same, knows.count, knows.few)

pub poll-requires-clause-cpu : goal.poll-requires-clause-cpu
poll-requires-clause-cpu g c =
    let knows = c.requires.going.5 in
    let same = length-map c.args.sides.now (view_of g.T.Endpoint.seen g.T.Endpoint.far g.T.Endpoint.fixed) in
    rw knows.trace_is (omega (arith, c.requires.cpu, same, knows.count))

pub poll-requires-clause-fitting : goal.poll-requires-clause-fitting
poll-requires-clause-fitting g c =
    let knows = c.requires.going.5 in
    let x = slice_index_or c.args.sides.now c.args.cpu c.index-sides-cpu.result in
    let at = slice_get-get_or c.args.sides.now c.args.cpu c.index-sides-cpu.result c.requires.cpu in
    subst (λ (n : ℕ). IsFitting c.args.daemon.now n (g.T.Endpoint.fixed x) (g.T.Endpoint.far x)) (omega arith)
    (fits_at c.args.daemon.now 0 _ c.args.cpu (view_of g.T.Endpoint.seen g.T.Endpoint.far g.T.Endpoint.fixed x) knows.fits
    (map_got (view_of g.T.Endpoint.seen g.T.Endpoint.far g.T.Endpoint.fixed) c.args.sides.now c.args.cpu x at))

pub poll-requires-clause-evenly : goal.poll-requires-clause-evenly
poll-requires-clause-evenly g c =
    let x = slice_index_or c.args.sides.now c.args.cpu c.index-sides-cpu.result in
    let at = slice_get-get_or c.args.sides.now c.args.cpu c.index-sides-cpu.result c.requires.cpu in
    let same : c.requires.may.0 ≡ view_of g.T.Endpoint.seen g.T.Endpoint.far g.T.Endpoint.fixed x =
    some_view _ _ _ c.requires.may.1 (map_got (view_of g.T.Endpoint.seen g.T.Endpoint.far g.T.Endpoint.fixed) c.args.sides.now c.args.cpu x at) in
    subst (λ (z : Plain). CellPollsEvenly c.args.cell z.fixed z.seen) same c.requires.may.2

pub returns-in-Drained-clause-polls : goal.returns-in-Drained-clause-polls
returns-in-Drained-clause-polls g c =
    let at = slice_get-get_or c.args.sides.now c.args.cpu c.index-sides-cpu.result c.requires.cpu in
    poll_on g.T.Endpoint.seen g.T.Endpoint.far g.T.Endpoint.fixed (record { books = c.laws.ensures.books; collects = c.laws.ensures.collects; timely = c.laws.ensures.timely; counts = c.laws.ensures.counts })
    c.args.daemon.now c.poll.new.self c.args.sides.now c.args.cpu c.args.cell _ c.poll.new.side _ c.requires.cell at c.poll.ensures.fixed c.poll.ensures.polls

pub returns-in-Passed-clause-polls : goal.returns-in-Passed-clause-polls
returns-in-Passed-clause-polls g c =
    let at = slice_get-get_or c.args.sides.now c.args.cpu c.index-sides-cpu.result c.requires.cpu in
    poll_on g.T.Endpoint.seen g.T.Endpoint.far g.T.Endpoint.fixed (record { books = c.laws.ensures.books; collects = c.laws.ensures.collects; timely = c.laws.ensures.timely; counts = c.laws.ensures.counts })
    c.args.daemon.now c.poll.new.self c.args.sides.now c.args.cpu c.args.cell _ c.poll.new.side _ c.requires.cell at c.poll.ensures.fixed c.poll.ensures.polls

pub returns-in-Home-clause-polls : goal.returns-in-Home-clause-polls
returns-in-Home-clause-polls g c =
    let at = slice_get-get_or c.args.sides.now c.args.cpu c.index-sides-cpu.result c.requires.cpu in
    poll_on g.T.Endpoint.seen g.T.Endpoint.far g.T.Endpoint.fixed (record { books = c.laws.ensures.books; collects = c.laws.ensures.collects; timely = c.laws.ensures.timely; counts = c.laws.ensures.counts })
    c.args.daemon.now c.poll.new.self c.args.sides.now c.args.cpu c.args.cell _ c.poll.new.side _ c.requires.cell at c.poll.ensures.fixed c.poll.ensures.polls

pub returns-in-Drained-clause-tried : goal.returns-in-Drained-clause-tried
returns-in-Drained-clause-tried g c =
    let at = slice_get-get_or c.args.sides.now c.args.cpu c.index-sides-cpu.result c.requires.cpu in
    tried_on g.T.Endpoint.seen g.T.Endpoint.far g.T.Endpoint.fixed c.args.daemon.now c.poll.new.self c.args.sides.now c.args.cpu c.args.cell _ c.poll.new.side _ c.requires.cell at
    c.poll.ensures.fixed c.poll.ensures.polls

pub returns-in-Passed-clause-tried : goal.returns-in-Passed-clause-tried
returns-in-Passed-clause-tried g c =
    let at = slice_get-get_or c.args.sides.now c.args.cpu c.index-sides-cpu.result c.requires.cpu in
    tried_on g.T.Endpoint.seen g.T.Endpoint.far g.T.Endpoint.fixed c.args.daemon.now c.poll.new.self c.args.sides.now c.args.cpu c.args.cell _ c.poll.new.side _ c.requires.cell at
    c.poll.ensures.fixed c.poll.ensures.polls

pub returns-in-Home-clause-tried : goal.returns-in-Home-clause-tried
returns-in-Home-clause-tried g c =
    let at = slice_get-get_or c.args.sides.now c.args.cpu c.index-sides-cpu.result c.requires.cpu in
    tried_on g.T.Endpoint.seen g.T.Endpoint.far g.T.Endpoint.fixed c.args.daemon.now c.poll.new.self c.args.sides.now c.args.cpu c.args.cell _ c.poll.new.side _ c.requires.cell at
    c.poll.ensures.fixed c.poll.ensures.polls

pub returns-in-Drained-clause-fixed : goal.returns-in-Drained-clause-fixed
returns-in-Drained-clause-fixed g c = map-set_same g.T.Endpoint.fixed c.args.sides.now c.args.cpu c.poll.new.side c.index-sides-cpu.result c.poll.ensures.fixed

pub returns-in-Passed-clause-fixed : goal.returns-in-Passed-clause-fixed
returns-in-Passed-clause-fixed g c = map-set_same g.T.Endpoint.fixed c.args.sides.now c.args.cpu c.poll.new.side c.index-sides-cpu.result c.poll.ensures.fixed

pub returns-in-Home-clause-fixed : goal.returns-in-Home-clause-fixed
returns-in-Home-clause-fixed g c = map-set_same g.T.Endpoint.fixed c.args.sides.now c.args.cpu c.poll.new.side c.index-sides-cpu.result c.poll.ensures.fixed
