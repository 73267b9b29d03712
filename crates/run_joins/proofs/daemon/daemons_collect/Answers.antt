use Rattle.std.proofs.Common.{refl}
use Rattle.run_joins.proofs.Knowing.{collects_first, collects_second, collects_third, collects_moved, collects_all}
use Rattle.run_joins.proofs.daemon.daemons_collect.Goals as goal

pub returns : goal.returns
returns c = record {
  begins = λ pace records first_epoch given. record {
    taken0 = refl;
    taken1 = refl;
    taken2 = refl;
    before0 = tt;
    before1 = tt;
    before2 = tt;
    collected = record { asked = tt; complete = tt };
  };
  buffer0 = collects_first;
  buffer1 = collects_second;
  table = collects_third;
  moved = collects_moved;
  finished = collects_all;
}
