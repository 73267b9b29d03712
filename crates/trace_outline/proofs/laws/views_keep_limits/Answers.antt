-- The laws of a trace, at the one that is seen.
use Rattle.trace_model.specs.Streams.{records_in}
use Rattle.trace_laws.proofs.Keeping.{limits_of, ranges_of, sizes_of}
use Rattle.trace_laws.proofs.Naming.{place_has}
use Rattle.trace_outline.specs.Views.{viewed}
use Rattle.trace_outline.proofs.Seen.{good}
use Rattle.trace_outline.proofs.laws.views_keep_limits.Goals as goal

pub returns-clause-sizes : goal.returns-clause-sizes
returns-clause-sizes c = sizes_of (viewed c.args.view.now) (good c.args.view.now)

pub returns-clause-limits : goal.returns-clause-limits
returns-clause-limits c = limits_of (viewed c.args.view.now) (good c.args.view.now)

pub returns-clause-ranges : goal.returns-clause-ranges
returns-clause-ranges c = ranges_of (viewed c.args.view.now) (good c.args.view.now)

pub returns-clause-places : goal.returns-clause-places
returns-clause-places c = place_has (viewed c.args.view.now).images (records_in (viewed c.args.view.now)) (ranges_of (viewed c.args.view.now) (good c.args.view.now)).names
