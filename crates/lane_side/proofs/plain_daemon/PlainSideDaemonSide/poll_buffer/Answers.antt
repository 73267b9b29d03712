use Rattle.lane_side.specs.Insides.{parts_of}
use Rattle.lane_side.proofs.PlainCalls.{polled_any0, polled_any1, one_left}
use Rattle.lane_side.proofs.plain_daemon.PlainSideDaemonSide.poll_buffer.Goals as goal

pub returns-then-b-eq0-clause-polls : goal.returns-then-b-eq0-clause-polls
returns-then-b-eq0-clause-polls c =
    polled_any0 (parts_of c.self.inside) c.args.b c.args.self.now c.poll.new.self c.note.new.self c.poll.result c.word-word.result
    c.if-b-eq0.true c.self.view_is c.requires.free c.self.invariant c.word-word.ensures c.poll.ensures.cell c.note.ensures c.poll.ensures.answer

pub returns-else-b-eq0-clause-polls : goal.returns-else-b-eq0-clause-polls
returns-else-b-eq0-clause-polls c =
    polled_any1 (parts_of c.self.inside) c.args.b c.args.self.now c.poll-else-b-eq0.new.self c.note-else-b-eq0.new.self c.poll-else-b-eq0.result c.word-word-else-b-eq0.result
    (one_left c.args.b c.requires.number c.if-b-eq0.false) c.self.view_is c.requires.free c.self.invariant c.word-word-else-b-eq0.ensures c.poll-else-b-eq0.ensures.cell c.note-else-b-eq0.ensures c.poll-else-b-eq0.ensures.answer
