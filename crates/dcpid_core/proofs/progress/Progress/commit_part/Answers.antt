-- After a commit nothing is gathered for the next part.
use Rattle.std.proofs.Common.{◌≡◌, [], subst, sym}
use Rattle.profile_merge.specs.Gathering.{EpochsAreUpTo, Gathers, ImagesAreIn}
use Rattle.dcpid_core.specs.Insides.{records_of}
use Rattle.trace_outline.specs.Views.{viewed}
use Rattle.dcpid_core.proofs.progress.Progress.commit_part.Goals as goal

pub returns-clause-ready : goal.returns-clause-ready
returns-clause-ready g c =
    let fresh : c.replace-gathered.new.dest ≡ c.new-2.result = c.replace-gathered.ensures.after in
    let images = (viewed c.args.task.now.trace).images in
    record {
      gathers = subst (λ x. Gathers x images (records_of c.args.task.now) []) (sym fresh) (c.new-2.ensures.nothing images (records_of c.args.task.now));
      images = subst (λ x. ImagesAreIn images x) (sym fresh) (c.new-2.ensures.images images);
      epochs = subst (λ x. EpochsAreUpTo c.args.epoch x) (sym fresh) (c.new-2.ensures.epochs c.args.epoch);
      works = c.in_ok-stored.ensures.works;
      run = sym c.in_ok-stored.ensures.runs;
      epoch_is = sym c.in_ok-stored.ensures.epoch;
    }
