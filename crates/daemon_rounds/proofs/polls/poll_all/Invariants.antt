-- The sides before the index were polled and may be rung; the others are idle.
use Rattle.std.proofs.Common.{◌≡◌, map}
use Rattle.dcpid_core.specs.Collection.{views}
use Rattle.daemon_rounds.specs.Going.{PollsOn}
use Rattle.daemon_rounds.proofs.PollingSides.{AreReadyTo}
use Rattle.daemon_rounds.proofs.polls.poll_all.Given as goal

abbrev pub invariant-loop-cpu : goal.invariant-loop-cpu
invariant-loop-cpu g l = record {
  polls : PollsOn l.initial.daemon (views g.T.Endpoint.seen g.T.Endpoint.far g.T.Endpoint.fixed l.initial.sides)
      l.daemon (views g.T.Endpoint.seen g.T.Endpoint.far g.T.Endpoint.fixed l.sides);
  ready : AreReadyTo l.cpu (views g.T.Endpoint.seen g.T.Endpoint.far g.T.Endpoint.fixed l.sides);
  fixed : map g.T.Endpoint.fixed l.sides ≡ map g.T.Endpoint.fixed l.initial.sides;
}
