use Rattle.shared_side.proofs.Polling.{any_polled0, any_polled1, one_left}
use Rattle.shared_side.proofs.shared_daemon.SharedDaemonDaemonSide.poll_buffer.Goals as goal

pub returns-then-b-eq0-clause-polls : goal.returns-then-b-eq0-clause-polls
returns-then-b-eq0-clause-polls c =
    let s = c.self.inside in let e = c.poll.ensures in
    any_polled0 s.first c.poll.new.self s.second s.third s.bell c.poll_in.new.bell s.rung_at.numbers c.poll.result c.args.b c.args.self.now c.poll_in.result
    c.if-b-eq0.true c.self.view_is c.poll_in.ensures.poll c.requires.free c.self.invariant.keys
    (record { stays = e.stays; counted = e.counted; cause = e.cause; taken = e.taken; last = e.last; holds = e.holds; keeps = e.keeps }) c.poll_in.ensures.stays.1 c.poll_in.ensures.met

pub returns-else-b-eq0-clause-polls : goal.returns-else-b-eq0-clause-polls
returns-else-b-eq0-clause-polls c =
    let s = c.self.inside in let e = c.poll-else-b-eq0.ensures in let f = c.poll_in-else-b-eq0 in
    any_polled1 s.first s.second c.poll-else-b-eq0.new.self s.third s.bell f.new.bell s.rung_at.numbers c.poll-else-b-eq0.result c.args.b c.args.self.now f.result
    (one_left c.args.b c.requires.number c.if-b-eq0.false) c.self.view_is f.ensures.poll c.requires.free c.self.invariant.keys
    (record { stays = e.stays; counted = e.counted; cause = e.cause; taken = e.taken; last = e.last; holds = e.holds; keeps = e.keeps }) f.ensures.stays.1 f.ensures.met
