-- What a write took moves from the rest to what was written.
use Rattle.std.proofs.Common.{◌++◌, take, ◌∙◌}
use Rattle.std.proofs.KnownBytes.{Appends-trans}
use Rattle.outside_io.proofs.Fronts.{moves_front}
use Rattle.outside_io.proofs.writing.put_all.Goals as goal

pub loop-rest-preserved : goal.loop-rest-preserved
loop-rest-preserved g c =
    let (done, split, appended) = c.loop-rest.invariant.front in
    let n = c.in-Ok.count in
    record {
      front = (done ++ take n c.loop-rest.rest.now, moves_front _ done _ n split, Appends-trans _ _ _ _ _ appended c.in-Ok.ensures.bytes);
      faults = c.in-Ok.ensures.cause.kept ∙ c.loop-rest.invariant.faults;
    }
