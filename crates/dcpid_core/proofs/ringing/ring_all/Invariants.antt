-- The sides before the index were rung, the others not.
use Rattle.std.proofs.Common.{◌≡◌, ◌++◌, map, take, drop}
use Rattle.dcpid_core.specs.Collection.{rang, views}
use Rattle.dcpid_core.proofs.ringing.ring_all.Given as goal

abbrev pub invariant-loop-i : goal.invariant-loop-i
invariant-loop-i g l =
    views g.T.Endpoint.seen g.T.Endpoint.far g.T.Endpoint.fixed l.sides
    ≡ map (rang l.value) (take l.i (views g.T.Endpoint.seen g.T.Endpoint.far g.T.Endpoint.fixed l.initial.sides))
    ++ drop l.i (views g.T.Endpoint.seen g.T.Endpoint.far g.T.Endpoint.fixed l.initial.sides)
