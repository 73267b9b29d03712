use Rattle.std.proofs.Common.{◌≡◌, length, arith}
use Rattle.run_record.proofs.Parts.{entries_more, entries_done}
use Rattle.run_record.proofs.writing.put_entries.Goals as goal

pub loop-i-preserved : goal.loop-i-preserved
loop-i-preserved c =
    entries_more c.args.entries.now c.args.known.now c.loop-i.i c.index-entries-i.result _ c.args.out.now.items c.loop-i.out.items c.put_entry.new.out.items c.loop-i-test.true c.requires c.index-entries-i.is c.loop-i.invariant c.in_ok-put_entry.ensures

pub returns : goal.returns
returns c =
    let whole : c.loop-i.i ≡ length c.args.entries.now = omega arith in
    entries_done c.args.entries.now c.args.known.now c.loop-i.i c.args.out.now.items c.loop-i.out.items whole c.requires c.loop-i.invariant
