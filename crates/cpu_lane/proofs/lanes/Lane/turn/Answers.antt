use Rattle.std.proofs.Common.{refl}
use Rattle.cpu_lane.specs.Seen.{Seen, setup_of, driver_of}
use Rattle.cpu_lane.proofs.Keeping.{kept_lane}
use Rattle.cpu_lane.proofs.lanes.Lane.turn.Goals as goal

pub returns-clause-invariant : goal.returns-clause-invariant
returns-clause-invariant g c =
    let r : Seen = record { setup = setup_of c.self.inside.setup; driver = driver_of c.self.inside.driver } in
    let q : Seen = record { setup = setup_of c.self.inside.setup; driver = driver_of c.step.new.self } in
    (kept_lane (record { keeps = c.laws.ensures.keeps; few = c.laws.ensures.few; falls = c.laws.ensures.falls; hears = c.laws.ensures.hears; causes = c.laws.ensures.causes; closes = c.laws.ensures.closes })
    r c.args.self.now q (g.S.Endpoint.fixed c.args.side.now) (g.S.Endpoint.far c.args.side.now) (g.S.Endpoint.seen c.args.side.now) c.step.result (g.S.Endpoint.seen c.step.new.side)
    c.self.view_is refl c.self.invariant.0 c.requires.side c.requires.room c.requires.invariant c.step.ensures.step).1

pub returns-clause-closed : goal.returns-clause-closed
returns-clause-closed g c =
    let r : Seen = record { setup = setup_of c.self.inside.setup; driver = driver_of c.self.inside.driver } in
    let q : Seen = record { setup = setup_of c.self.inside.setup; driver = driver_of c.step.new.self } in
    (kept_lane (record { keeps = c.laws.ensures.keeps; few = c.laws.ensures.few; falls = c.laws.ensures.falls; hears = c.laws.ensures.hears; causes = c.laws.ensures.causes; closes = c.laws.ensures.closes })
    r c.args.self.now q (g.S.Endpoint.fixed c.args.side.now) (g.S.Endpoint.far c.args.side.now) (g.S.Endpoint.seen c.args.side.now) c.step.result (g.S.Endpoint.seen c.step.new.side)
    c.self.view_is refl c.self.invariant.0 c.requires.side c.requires.room c.requires.invariant c.step.ensures.step).0.closed

pub returns-clause-cause : goal.returns-clause-cause
returns-clause-cause g c =
    let r : Seen = record { setup = setup_of c.self.inside.setup; driver = driver_of c.self.inside.driver } in
    let q : Seen = record { setup = setup_of c.self.inside.setup; driver = driver_of c.step.new.self } in
    (kept_lane (record { keeps = c.laws.ensures.keeps; few = c.laws.ensures.few; falls = c.laws.ensures.falls; hears = c.laws.ensures.hears; causes = c.laws.ensures.causes; closes = c.laws.ensures.closes })
    r c.args.self.now q (g.S.Endpoint.fixed c.args.side.now) (g.S.Endpoint.far c.args.side.now) (g.S.Endpoint.seen c.args.side.now) c.step.result (g.S.Endpoint.seen c.step.new.side)
    c.self.view_is refl c.self.invariant.0 c.requires.side c.requires.room c.requires.invariant c.step.ensures.step).0.cause

pub returns-clause-few : goal.returns-clause-few
returns-clause-few g c =
    let r : Seen = record { setup = setup_of c.self.inside.setup; driver = driver_of c.self.inside.driver } in
    let q : Seen = record { setup = setup_of c.self.inside.setup; driver = driver_of c.step.new.self } in
    (kept_lane (record { keeps = c.laws.ensures.keeps; few = c.laws.ensures.few; falls = c.laws.ensures.falls; hears = c.laws.ensures.hears; causes = c.laws.ensures.causes; closes = c.laws.ensures.closes })
    r c.args.self.now q (g.S.Endpoint.fixed c.args.side.now) (g.S.Endpoint.far c.args.side.now) (g.S.Endpoint.seen c.args.side.now) c.step.result (g.S.Endpoint.seen c.step.new.side)
    c.self.view_is refl c.self.invariant.0 c.requires.side c.requires.room c.requires.invariant c.step.ensures.step).0.few

pub returns-clause-hears : goal.returns-clause-hears
returns-clause-hears g c =
    let r : Seen = record { setup = setup_of c.self.inside.setup; driver = driver_of c.self.inside.driver } in
    let q : Seen = record { setup = setup_of c.self.inside.setup; driver = driver_of c.step.new.self } in
    (kept_lane (record { keeps = c.laws.ensures.keeps; few = c.laws.ensures.few; falls = c.laws.ensures.falls; hears = c.laws.ensures.hears; causes = c.laws.ensures.causes; closes = c.laws.ensures.closes })
    r c.args.self.now q (g.S.Endpoint.fixed c.args.side.now) (g.S.Endpoint.far c.args.side.now) (g.S.Endpoint.seen c.args.side.now) c.step.result (g.S.Endpoint.seen c.step.new.side)
    c.self.view_is refl c.self.invariant.0 c.requires.side c.requires.room c.requires.invariant c.step.ensures.step).0.hears

pub returns-clause-later : goal.returns-clause-later
returns-clause-later g c =
    let r : Seen = record { setup = setup_of c.self.inside.setup; driver = driver_of c.self.inside.driver } in
    let q : Seen = record { setup = setup_of c.self.inside.setup; driver = driver_of c.step.new.self } in
    (kept_lane (record { keeps = c.laws.ensures.keeps; few = c.laws.ensures.few; falls = c.laws.ensures.falls; hears = c.laws.ensures.hears; causes = c.laws.ensures.causes; closes = c.laws.ensures.closes })
    r c.args.self.now q (g.S.Endpoint.fixed c.args.side.now) (g.S.Endpoint.far c.args.side.now) (g.S.Endpoint.seen c.args.side.now) c.step.result (g.S.Endpoint.seen c.step.new.side)
    c.self.view_is refl c.self.invariant.0 c.requires.side c.requires.room c.requires.invariant c.step.ensures.step).0.later

pub returns-clause-heard : goal.returns-clause-heard
returns-clause-heard g c =
    let r : Seen = record { setup = setup_of c.self.inside.setup; driver = driver_of c.self.inside.driver } in
    let q : Seen = record { setup = setup_of c.self.inside.setup; driver = driver_of c.step.new.self } in
    (kept_lane (record { keeps = c.laws.ensures.keeps; few = c.laws.ensures.few; falls = c.laws.ensures.falls; hears = c.laws.ensures.hears; causes = c.laws.ensures.causes; closes = c.laws.ensures.closes })
    r c.args.self.now q (g.S.Endpoint.fixed c.args.side.now) (g.S.Endpoint.far c.args.side.now) (g.S.Endpoint.seen c.args.side.now) c.step.result (g.S.Endpoint.seen c.step.new.side)
    c.self.view_is refl c.self.invariant.0 c.requires.side c.requires.room c.requires.invariant c.step.ensures.step).0.heard

pub returns-clause-room : goal.returns-clause-room
returns-clause-room g c =
    let r : Seen = record { setup = setup_of c.self.inside.setup; driver = driver_of c.self.inside.driver } in
    let q : Seen = record { setup = setup_of c.self.inside.setup; driver = driver_of c.step.new.self } in
    (kept_lane (record { keeps = c.laws.ensures.keeps; few = c.laws.ensures.few; falls = c.laws.ensures.falls; hears = c.laws.ensures.hears; causes = c.laws.ensures.causes; closes = c.laws.ensures.closes })
    r c.args.self.now q (g.S.Endpoint.fixed c.args.side.now) (g.S.Endpoint.far c.args.side.now) (g.S.Endpoint.seen c.args.side.now) c.step.result (g.S.Endpoint.seen c.step.new.side)
    c.self.view_is refl c.self.invariant.0 c.requires.side c.requires.room c.requires.invariant c.step.ensures.step).0.room

pub returns-clause-buckets : goal.returns-clause-buckets
returns-clause-buckets g c =
    let r : Seen = record { setup = setup_of c.self.inside.setup; driver = driver_of c.self.inside.driver } in
    let q : Seen = record { setup = setup_of c.self.inside.setup; driver = driver_of c.step.new.self } in
    (kept_lane (record { keeps = c.laws.ensures.keeps; few = c.laws.ensures.few; falls = c.laws.ensures.falls; hears = c.laws.ensures.hears; causes = c.laws.ensures.causes; closes = c.laws.ensures.closes })
    r c.args.self.now q (g.S.Endpoint.fixed c.args.side.now) (g.S.Endpoint.far c.args.side.now) (g.S.Endpoint.seen c.args.side.now) c.step.result (g.S.Endpoint.seen c.step.new.side)
    c.self.view_is refl c.self.invariant.0 c.requires.side c.requires.room c.requires.invariant c.step.ensures.step).0.buckets

pub returns-clause-buffer : goal.returns-clause-buffer
returns-clause-buffer g c =
    let r : Seen = record { setup = setup_of c.self.inside.setup; driver = driver_of c.self.inside.driver } in
    let q : Seen = record { setup = setup_of c.self.inside.setup; driver = driver_of c.step.new.self } in
    (kept_lane (record { keeps = c.laws.ensures.keeps; few = c.laws.ensures.few; falls = c.laws.ensures.falls; hears = c.laws.ensures.hears; causes = c.laws.ensures.causes; closes = c.laws.ensures.closes })
    r c.args.self.now q (g.S.Endpoint.fixed c.args.side.now) (g.S.Endpoint.far c.args.side.now) (g.S.Endpoint.seen c.args.side.now) c.step.result (g.S.Endpoint.seen c.step.new.side)
    c.self.view_is refl c.self.invariant.0 c.requires.side c.requires.room c.requires.invariant c.step.ensures.step).0.buffer
