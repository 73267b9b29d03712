-- The steps of the schedule and then of the rounds are the run of the trace.
use Rattle.std.proofs.Common.{◌∙◌, ◌+◌, sym}
use Rattle.std.proofs.lemmas.Result.{IfOk-weaker, err_from_is_err_and}
use Rattle.trace_outline.specs.Views.{viewed}
use Rattle.epoch_store.specs.Databases.{head_of}
use Rattle.replay_drive.proofs.EndStores.{nothing_done}
use Rattle.replay_drive.proofs.ReplayWhole.{all_steps, all_stored, leaves_whole, outcome_is, rounds_taken, schedule_taken}
use Rattle.replay_drive.proofs.replaying.replay_streams.Goals as goal

pub returns-in_err-round-clause-leaves : goal.returns-in_err-round-clause-leaves
returns-in_err-round-clause-leaves g c =
    let p = err_from_is_err_and c.from_residual.result c.from_residual.ensures.1 in
    rw (p.1, p.2) (nothing_done g.D.Store.files g.D.Store.faults g.D.Store.moment g.D.Store.left_since (viewed c.args.trace.now) _ (head_of c.args.db) c.args.store.now)

pub returns-in_err-replay-clause-leaves : goal.returns-in_err-replay-clause-leaves
returns-in_err-replay-clause-leaves g c =
    let p = err_from_is_err_and c.from_residual-in_err-replay.result c.from_residual-in_err-replay.ensures.1 in
    rw (p.1, p.2) (nothing_done g.D.Store.files g.D.Store.faults g.D.Store.moment g.D.Store.left_since (viewed c.args.trace.now) _ (head_of c.args.db) c.args.store.now)

pub rounds-requires : goal.rounds-requires
rounds-requires g c =
    let trace = viewed c.args.trace.now in
    let head = head_of c.args.db in
    (trace, head.runs + 1, head.epoch, trace.schedule, schedule_taken trace head c.in_ok-replay.replay c.steps.new.self _ c.schedule.ensures c.in_ok-replay.ensures c.steps.ensures.taken)

pub end-requires : goal.end-requires
end-requires g c =
    let trace = viewed c.args.trace.now in
    let head = head_of c.args.db in
    let first = schedule_taken trace head c.in_ok-replay.replay c.steps.new.self _ c.schedule.ensures c.in_ok-replay.ensures c.steps.ensures.taken in (
      trace,
      head.runs + 1,
      head.epoch,
      all_steps trace,
      rounds_taken c.runs_end_well.ensures trace head c.steps.new.self c.rounds.new.self _ (c.deref.ensures.value ∙ c.in_ok-round.ensures trace (sym c.cpus.ensures)) first c.rounds.ensures.taken,
    )

pub returns-clause-run : goal.returns-clause-run
returns-clause-run g c =
    let trace = viewed c.args.trace.now in
    let head = head_of c.args.db in
    let first = schedule_taken trace head c.in_ok-replay.replay c.steps.new.self _ c.schedule.ensures c.in_ok-replay.ensures c.steps.ensures.taken in
    let ended = rounds_taken c.runs_end_well.ensures trace head c.steps.new.self c.rounds.new.self _ (c.deref.ensures.value ∙ c.in_ok-round.ensures trace (sym c.cpus.ensures)) first c.rounds.ensures.taken in
    IfOk-weaker c.end.result _ _ (λ outcome answers. outcome_is c.runs_end_well.ensures trace head c.rounds.new.self outcome ended answers) c.end.ensures.run

pub returns-clause-leaves : goal.returns-clause-leaves
returns-clause-leaves g c =
    let trace = viewed c.args.trace.now in
    let head = head_of c.args.db in
    let first = schedule_taken trace head c.in_ok-replay.replay c.steps.new.self _ c.schedule.ensures c.in_ok-replay.ensures c.steps.ensures.taken in
    let ended = rounds_taken c.runs_end_well.ensures trace head c.steps.new.self c.rounds.new.self _ (c.deref.ensures.value ∙ c.in_ok-round.ensures trace (sym c.cpus.ensures)) first c.rounds.ensures.taken in
    let stored = all_stored g.D.Store.files g.D.Store.faults g.D.Store.moment g.D.Store.left_since trace head c.in_ok-replay.replay c.steps.new.self c.rounds.new.self c.args.store.now c.steps.new.store c.rounds.new.store _ _
    c.schedule.ensures (c.deref.ensures.value ∙ c.in_ok-round.ensures trace (sym c.cpus.ensures)) c.in_ok-replay.ensures first c.steps.ensures.stores c.rounds.ensures.stores in
    leaves_whole g.D.Store.files g.D.Store.faults g.D.Store.moment g.D.Store.left_since c.runs_end_well.ensures trace head c.args.store.now c.end.new.store _ first.fit
    (c.end.ensures.stores trace (head.runs + 1) head.epoch (all_steps trace) head c.args.store.now ended stored)
