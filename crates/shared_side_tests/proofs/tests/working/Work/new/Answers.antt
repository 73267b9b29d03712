use Rattle.std.proofs.Common.{◌/◌, arith}
use Rattle.driver_play.proofs.Marking.{have_rising, have_most}
use Rattle.shared_side_tests.proofs.tests.working.Work.new.Goals as goal

pub new-requires : goal.new-requires
new-requires c =
    record {
      cpu = c.requires.cpu;
      few = c.requires.few;
      rising = have_rising 0 c.args.samples.items c.requires.marks;
      odd = c.requires.last.0;
      bound = c.requires.last.1;
      due = have_most 0 (c.args.plan.last / 2) c.args.samples.items (omega arith) c.requires.marks;
    }
