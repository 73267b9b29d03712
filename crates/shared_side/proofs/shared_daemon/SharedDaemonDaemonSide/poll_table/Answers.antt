use Rattle.shared_side.proofs.Polling.{any_polled2}
use Rattle.shared_side.proofs.shared_daemon.SharedDaemonDaemonSide.poll_table.Goals as goal

pub returns-clause-polls : goal.returns-clause-polls
returns-clause-polls c =
    let s = c.self.inside in let e = c.poll.ensures in
    any_polled2 s.first s.second s.third c.poll.new.self s.bell c.poll_in.new.bell s.rung_at.numbers c.poll.result c.args.self.now c.poll_in.result
    c.self.view_is c.poll_in.ensures.poll c.requires.free c.self.invariant.keys
    (record { stays = e.stays; counted = e.counted; cause = e.cause; taken = e.taken; last = e.last; holds = e.holds; keeps = e.keeps }) c.poll_in.ensures.stays.1 c.poll_in.ensures.met
