-- A round of polls and an advance keep what the daemon knows of its sides, and the store.
use Rattle.daemon_rounds.proofs.Early.{polls_early}
use Rattle.daemon_rounds.proofs.Storing.{round_gone}
use Rattle.daemon_rounds.proofs.rounds.go_round.Goals as goal

pub advance_all-requires-clause-going : goal.advance_all-requires-clause-going
advance_all-requires-clause-going g c =
    let k = c.requires.going in
    let polled = c.poll_all-drained.ensures.polls k.0 k.1 k.2 k.3 k.4 k.5 in
    (k.0, k.1, k.2, k.3, polled.later, polled.knows)

pub returns-in-Finished-clause-goes : goal.returns-in-Finished-clause-goes
returns-in-Finished-clause-goes g c =
    round_gone g.D.Store.files g.D.Store.faults g.D.Store.moment g.D.Store.left_since c.args.daemon.now c.poll_all-drained.new.daemon c.advance_all.new.daemon _ _ _ c.args.store.now c.advance_all.new.store
    c.poll_all-drained.ensures.polls c.advance_all.ensures.goes

pub returns-in-Moved-clause-goes : goal.returns-in-Moved-clause-goes
returns-in-Moved-clause-goes g c =
    round_gone g.D.Store.files g.D.Store.faults g.D.Store.moment g.D.Store.left_since c.args.daemon.now c.poll_all-drained.new.daemon c.advance_all.new.daemon _ _ _ c.args.store.now c.advance_all.new.store
    c.poll_all-drained.ensures.polls c.advance_all.ensures.goes

pub returns-in-Opened-clause-goes : goal.returns-in-Opened-clause-goes
returns-in-Opened-clause-goes g c =
    round_gone g.D.Store.files g.D.Store.faults g.D.Store.moment g.D.Store.left_since c.args.daemon.now c.poll_all-drained.new.daemon c.advance_all.new.daemon _ _ _ c.args.store.now c.advance_all.new.store
    c.poll_all-drained.ensures.polls c.advance_all.ensures.goes

pub returns-in-Waiting-clause-goes : goal.returns-in-Waiting-clause-goes
returns-in-Waiting-clause-goes g c =
    round_gone g.D.Store.files g.D.Store.faults g.D.Store.moment g.D.Store.left_since c.args.daemon.now c.poll_all-drained.new.daemon c.advance_all.new.daemon _ _ _ c.args.store.now c.advance_all.new.store
    c.poll_all-drained.ensures.polls c.advance_all.ensures.goes

pub returns-in-Waiting-clause-over : goal.returns-in-Waiting-clause-over
returns-in-Waiting-clause-over g c = λ is. absurd (c.went_if.ensures is)

pub returns-in-Finished-clause-early : goal.returns-in-Finished-clause-early
returns-in-Finished-clause-early g c = λ early. c.advance_all.ensures.early (polls_early c.args.daemon.now c.poll_all-drained.new.daemon _ _ c.requires.going c.poll_all-drained.ensures.polls early)

pub returns-in-Moved-clause-early : goal.returns-in-Moved-clause-early
returns-in-Moved-clause-early g c = λ early. c.advance_all.ensures.early (polls_early c.args.daemon.now c.poll_all-drained.new.daemon _ _ c.requires.going c.poll_all-drained.ensures.polls early)

pub returns-in-Opened-clause-early : goal.returns-in-Opened-clause-early
returns-in-Opened-clause-early g c = λ early. c.advance_all.ensures.early (polls_early c.args.daemon.now c.poll_all-drained.new.daemon _ _ c.requires.going c.poll_all-drained.ensures.polls early)

pub returns-in-Waiting-clause-early : goal.returns-in-Waiting-clause-early
returns-in-Waiting-clause-early g c = λ early. c.advance_all.ensures.early (polls_early c.args.daemon.now c.poll_all-drained.new.daemon _ _ c.requires.going c.poll_all-drained.ensures.polls early)
