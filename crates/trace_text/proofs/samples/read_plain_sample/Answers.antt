use Rattle.std.proofs.Common.{arith}
use Rattle.trace_text.proofs.OnePass.{sample_read}
use Rattle.trace_text.proofs.samples.read_plain_sample.Goals as goal

pub returns-then-pid-from : goal.returns-then-pid-from
returns-then-pid-from c = sample_read c.args.line.now c.in_ok-fields.fields.now c.in_ok-cpu.behind_cpu.now c.in_ok-pid.behind_pid.now c.in_ok-pc.name.now
    c.in_ok-cpu.cpu c.in_ok-pid.pid c.in_ok-pc.pc c.in_ok-event.event c.in_ok-fields.ensures c.in_ok-cpu.ensures c.in_ok-pid.ensures c.in_ok-pc.ensures c.in_ok-event.ensures.named
    (omega (arith, c.if-cpu-from.true, c.from.ensures)) (omega (arith, c.if-pid-from.true, c.from-then-cpu-from.ensures))
