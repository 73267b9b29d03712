-- The side fits the daemon as it is inside.
use Rattle.std.proofs.Common.{sym, subst}
use Rattle.dcpid_core.specs.Collection.{IsFitting}
use Rattle.dcpid_core.proofs.daemons.Daemon.poll.Goals as goal

pub poll_buffer-requires-clause-fitting : goal.poll_buffer-requires-clause-fitting
poll_buffer-requires-clause-fitting g c = subst (λ d. IsFitting d c.args.cpu (g.T.Endpoint.fixed c.args.side.now) (g.T.Endpoint.far c.args.side.now)) (sym c.self.view_is) c.requires.fitting

pub poll_buffer-requires-in-1-clause-fitting : goal.poll_buffer-requires-in-1-clause-fitting
poll_buffer-requires-in-1-clause-fitting g c = subst (λ d. IsFitting d c.args.cpu (g.T.Endpoint.fixed c.args.side.now) (g.T.Endpoint.far c.args.side.now)) (sym c.self.view_is) c.requires.fitting

pub poll_table-requires-clause-fitting : goal.poll_table-requires-clause-fitting
poll_table-requires-clause-fitting g c = subst (λ d. IsFitting d c.args.cpu (g.T.Endpoint.fixed c.args.side.now) (g.T.Endpoint.far c.args.side.now)) (sym c.self.view_is) c.requires.fitting
