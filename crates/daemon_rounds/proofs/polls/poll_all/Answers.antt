-- One side after another.
use Rattle.std.proofs.Common.{arith, refl, rules, ◌∙◌, add-one}
use Rattle.std.proofs.lemmas.List.{length-map}
use Rattle.daemon_rounds.proofs.Polling.{going_on, polls_none, polls_on, view_of}
use Rattle.daemon_rounds.proofs.PollingSides.{all_ready, idle_next, none_ready, ready_more}
use Rattle.daemon_rounds.proofs.polls.poll_all.Goals as goal

pub loop-cpu-init : goal.loop-cpu-init
loop-cpu-init g c = record { polls = polls_none _ _; ready = search (rules, none_ready); fixed = refl }

pub poll_side-drained-requires-clause-going : goal.poll_side-drained-requires-clause-going
poll_side-drained-requires-clause-going g c = going_on _ _ _ _ c.requires.going c.loop-cpu.invariant.polls

pub poll_side-drained-requires-clause-idle : goal.poll_side-drained-requires-clause-idle
poll_side-drained-requires-clause-idle g c =
    let same = length-map c.loop-cpu.sides (view_of g.T.Endpoint.seen g.T.Endpoint.far g.T.Endpoint.fixed) in
    idle_next c.loop-cpu.cpu _ (omega (arith, same)) c.loop-cpu.invariant.ready

pub loop-cpu-preserved : goal.loop-cpu-preserved
loop-cpu-preserved g c = record {
  polls = polls_on _ _ _ _ _ _ c.loop-cpu.invariant.polls c.poll_side-drained.ensures.polls;
  ready = ready_more c.loop-cpu.cpu _ _ _ (add-one c.loop-cpu.cpu) c.poll_side-drained.ensures.ready c.loop-cpu.invariant.ready;
  fixed = c.poll_side-drained.ensures.fixed ∙ c.loop-cpu.invariant.fixed;
}

pub returns-clause-ready : goal.returns-clause-ready
returns-clause-ready g c =
    let same = length-map c.loop-cpu.sides (view_of g.T.Endpoint.seen g.T.Endpoint.far g.T.Endpoint.fixed) in
    all_ready c.loop-cpu.cpu _ (omega (arith, same)) c.loop-cpu.invariant.ready
