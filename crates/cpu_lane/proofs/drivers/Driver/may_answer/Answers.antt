use Rattle.std.proofs.Common.{◌+◌, drop}
use Rattle.cpu_lane.specs.Seen.{setup_of, driver_of}
use Rattle.cpu_lane.proofs.Sampling.{may_exact}
use Rattle.cpu_lane.proofs.drivers.Driver.may_answer.Goals as goal

pub returns-in-Some : goal.returns-in-Some
returns-in-Some c =
    may_exact (setup_of c.args.setup.now) (driver_of c.args.self.now) c.args.heard c.args.setup.now.plan.pace c.in-Some.sample.now
    (drop (c.args.self.now.at + 1) c.args.setup.now.samples.items) c.requires.rising c.in-Exact.is c.in-Some.ensures
