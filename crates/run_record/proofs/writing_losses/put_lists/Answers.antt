use Rattle.run_record.proofs.Parts.{losses_at, lists_more}
use Rattle.run_record.proofs.writing_losses.put_lists.Goals as goal

pub put_processor-requires : goal.put_processor-requires
put_processor-requires c = rw c.deref.ensures.value (losses_at c.args.lists.now c.loop-losses.losses-index c.losses-item.result c.loop-losses-test.true c.losses-item.is c.requires)

pub loop-losses-preserved : goal.loop-losses-preserved
loop-losses-preserved c =
    lists_more c.args.lists.now c.loop-losses.losses-index c.losses-item.result c.deref.result.now c.args.out.now.items c.loop-losses.out.items c.put_processor.new.out.items c.loop-losses-test.true c.losses-item.is c.deref.ensures.value c.loop-losses.invariant c.in_ok-put_processor.ensures
