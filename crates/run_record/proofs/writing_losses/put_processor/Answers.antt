use Rattle.run_record.proofs.Parts.{processor_appends}
use Rattle.run_record.proofs.writing_losses.put_processor.Goals as goal

pub returns : goal.returns
returns c = processor_appends c.args.out.now.items c.put_numbers.new.out.items c.put_losses.new.out.items c.args.losses.now c.requires c.in_ok-put_numbers.ensures.ok c.in_ok-put_losses.ensures
