use Rattle.std.proofs.Common.{◌/◌, arith}
use Rattle.driver_play.proofs.Marking.{have_rising, have_most}
use Rattle.driver_play.proofs.plays.Play.new.Goals as goal

pub new-requires-2 : goal.new-requires-2
new-requires-2 c =
    record {
      cpu = omega arith;
      few = c.requires.few;
      rising = have_rising c.args.mark c.args.samples.items c.requires.marks;
      odd = c.requires.last.0;
      bound = c.requires.last.1;
      due = have_most c.args.mark (c.args.plan.last / 2) c.args.samples.items c.requires.last.2 c.requires.marks;
    }
