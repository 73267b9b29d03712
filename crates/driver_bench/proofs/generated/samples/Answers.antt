use Rattle.std.proofs.Common.{arith}
use Rattle.driver_bench.proofs.generated.samples.Goals as goal

pub returns : goal.returns
returns c = (omega (arith, c.loop.invariant.count), c.loop.invariant.marks)
