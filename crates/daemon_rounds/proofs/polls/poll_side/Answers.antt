-- The three polls of a side, one after another.
use Rattle.std.proofs.Common.{rules}
use Rattle.daemon_rounds.proofs.Polling.{going_on, polls_on}
use Rattle.daemon_rounds.proofs.PollingSides.{may_second, may_third, ready_at}
use Rattle.daemon_rounds.proofs.polls.poll_side.Goals as goal

pub poll_cell-second-requires-clause-going : goal.poll_cell-second-requires-clause-going
poll_cell-second-requires-clause-going g c = going_on _ _ _ _ c.requires.going c.poll_cell-first.ensures.polls

pub poll_cell-second-requires-clause-may : goal.poll_cell-second-requires-clause-may
poll_cell-second-requires-clause-may g c = search (rules, may_second, may_third)

pub poll_cell-third-requires-clause-going : goal.poll_cell-third-requires-clause-going
poll_cell-third-requires-clause-going g c =
    going_on _ _ _ _ (going_on _ _ _ _ c.requires.going c.poll_cell-first.ensures.polls) c.poll_cell-second.ensures.polls

pub poll_cell-third-requires-clause-may : goal.poll_cell-third-requires-clause-may
poll_cell-third-requires-clause-may g c = search (rules, may_second, may_third)

pub returns-clause-polls : goal.returns-clause-polls
returns-clause-polls g c =
    polls_on _ _ _ _ _ _ (polls_on _ _ _ _ _ _ c.poll_cell-first.ensures.polls c.poll_cell-second.ensures.polls) c.poll_cell-third.ensures.polls

pub returns-clause-ready : goal.returns-clause-ready
returns-clause-ready g c =
    ready_at c.args.cpu _ _ _ _ c.requires.idle c.poll_cell-first.ensures.tried c.poll_cell-second.ensures.tried c.poll_cell-third.ensures.tried
