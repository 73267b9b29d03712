use Rattle.std.proofs.Common.{◌≡◌, length, arith}
use Rattle.run_record.proofs.TallyLaws.{samples_more, samples_whole}
use Rattle.run_record.proofs.counting.samples_in.Goals as goal

pub loop-i-preserved : goal.loop-i-preserved
loop-i-preserved c =
    record {
      sum = samples_more c.args.event c.args.flag c.args.entries.now c.args.known.now c.loop-i.i c.index-entries-i.result _ c.loop-i.sum c.samples_of-sum.result c.loop-i-test.true c.requires.flags c.loop-i.invariant.sum c.index-entries-i.is c.samples_of-sum.ensures.value;
      small = omega (arith, c.samples_of-sum.ensures.small, c.loop-i.invariant.small);
    }

pub returns-clause-sum : goal.returns-clause-sum
returns-clause-sum c =
    let whole : c.loop-i.i ≡ length c.args.entries.now = omega arith in
    samples_whole c.args.event c.args.flag c.args.entries.now c.args.known.now c.loop-i.i c.loop-i.sum whole c.requires.flags c.loop-i.invariant.sum
