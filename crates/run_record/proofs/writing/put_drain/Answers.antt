use Rattle.std.proofs.Common.{◌∙◌, arith}
use Rattle.run_record.proofs.Parts.{drain_written}
use Rattle.run_record.proofs.writing.put_drain.Goals as goal

pub returns : goal.returns
returns c =
    let later = rw (c.deref.ensures.value, c.deref-2.ensures.value) at c.in_ok-put_entries.ensures in
    drain_written c.args.out.now.items c.put_numbers.new.out.items c.put_entries.new.out.items c.d.inside.at c.d.inside.epoch
    (record {
      cpu = c.note.inside.cpu;
      cell = c.note.inside.cell;
      number = c.note.inside.number;
      upto = c.note.inside.upto;
      answers = c.note.inside.answers;
      sent0 = c.note.inside.sent0;
      sent1 = c.note.inside.sent1;
    })
    c.batch.inside.note c.batch.inside.entries.items c.d.inside.known.items c.d.inside.batch c.args.d.now c.wide-at.result c.wide-epoch.result c.wide-cpu.result c.from-cell.result c.len-count.result
    c.note.view_is c.batch.view_is c.d.view_is c.requires c.wide-at.ensures.same c.wide-epoch.ensures.same c.wide-epoch.ensures.fits c.wide-cpu.ensures.same c.from-cell.ensures (c.len-count.ensures ∙ c.batch.inside.entries.ok.0)
    (record {
      kept = c.note.invariant;
      number = c.in_ok-put_numbers.ensures.wide 4 0 (omega arith);
      answers = c.in_ok-put_numbers.ensures.wide 6 0 (omega arith);
      sent0 = c.in_ok-put_numbers.ensures.wide 7 0 (omega arith);
      sent1 = c.in_ok-put_numbers.ensures.wide 8 0 (omega arith);
    })
    c.in_ok-put_numbers.ensures.ok later
