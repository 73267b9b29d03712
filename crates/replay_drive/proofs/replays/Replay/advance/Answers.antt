-- An advance is that step of the run, and keeps the store.
use Rattle.std.proofs.Common.{sym, ◌∙◌, ap, subst, List, length, arith}
use Rattle.std.proofs.lemmas.List.{with_items_is}
use Rattle.lane_side.specs.Plain.{Plain}
use Rattle.dcpid_core.specs.Collection.{AreFitting}
use Rattle.replay_drive.proofs.StepsTaken.{fitting, rang_by, rang_length, ring_by, stored_advance, taken_advance, views_are}
use Rattle.replay_drive.proofs.replays.Replay.advance.Goals as goal

pub advance-answer-requires : goal.advance-answer-requires
advance-answer-requires g c =
    let taken = c.requires.taken.4 in
    let fits = fitting (record { start = c.laws.ensures.start; turn = c.laws.ensures.turn; polls = c.laws.ensures.polls; heard = c.laws.ensures.heard; did = c.laws.ensures.did })
    c.requires.taken.0 c.requires.taken.1 c.requires.taken.2 c.requires.taken.3 c.args.self.now.lanes.items c.args.self.now.sides.items c.args.self.now.daemon taken.fit taken.stands in
    record { fitting = subst (λ (ss : List Plain). AreFitting c.args.self.now.daemon ss) (sym c.deref_mut.ensures.value ∙ sym (views_are c.deref_mut.result.now)) fits }

pub returns-clause-taken : goal.returns-clause-taken
returns-clause-taken g c = λ trace run first_epoch steps taken.
    let rings = sym (views_are c.advance-answer.new.sides) ∙ c.advance-answer.ensures.rings ∙ ap (rang_by c.args.self.now.daemon) (views_are c.deref_mut.result.now ∙ c.deref_mut.ensures.value) in
    let next = taken_advance g.D.Store.files g.D.Store.faults g.D.Store.moment g.D.Store.left_since
    (record { start = c.laws.ensures.start; turn = c.laws.ensures.turn; polls = c.laws.ensures.polls; heard = c.laws.ensures.heard; did = c.laws.ensures.did }) c.laws.ensures.advances c.laws.ensures.counts
    trace run first_epoch steps c.args.self.now.lanes.items c.args.self.now.sides.items c.advance-answer.new.sides c.args.self.now.daemon c.advance-answer.new.self c.args.store.now c.advance-answer.new.store _ c.args.self.now.finished
    taken.fit taken.finished c.requires.going taken.stands c.advance-answer.ensures.advances rings in
    let many = ap length rings ∙ rang_length (ring_by c.args.self.now.daemon) c.args.self.now.sides.items in
    let sides = with_items_is c.args.self.now.sides c.advance-answer.new.sides (omega (arith, many, c.args.self.now.sides.ok.0)) in
    record { fit = taken.fit; stands = rw sides next.stands; finished = c.is_finished-self.ensures ∙ next.finished_is }

pub returns-clause-stores : goal.returns-clause-stores
returns-clause-stores g c = λ trace run first_epoch steps rest begin start taken stored.
    stored_advance g.D.Store.files g.D.Store.faults g.D.Store.moment g.D.Store.left_since
    (record { start = c.laws.ensures.start; turn = c.laws.ensures.turn; polls = c.laws.ensures.polls; heard = c.laws.ensures.heard; did = c.laws.ensures.did }) c.laws.ensures.advances
    trace run first_epoch steps rest begin start c.args.store.now c.advance-answer.new.store _ c.args.self.now _ taken c.requires.going stored c.advance-answer.ensures.advances
