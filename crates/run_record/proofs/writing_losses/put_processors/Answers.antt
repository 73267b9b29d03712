use Rattle.std.proofs.Common.{map, length}
use Rattle.std.proofs.lemmas.List.{length-map}
use Rattle.run_record.proofs.Parts.{items_of, processors_kept, processors_told}
use Rattle.run_record.proofs.writing_losses.put_processors.Goals as goal

pub returns-then-not-last : goal.returns-then-not-last
returns-then-not-last c = processors_kept c.args.last c.args.out.now.items (map items_of c.args.lists.now) c.if-not-last.true c.requires

pub returns : goal.returns
returns c =
    processors_told c.args.last c.args.out.now.items c.put_numbers.new.out.items c.put_lists.new.out.items (map items_of c.args.lists.now) (length c.args.lists.now) c.if-not-last.false c.requires (length-map c.args.lists.now items_of) c.in_ok-put_numbers.ensures.ok c.in_ok-put_lists.ensures
