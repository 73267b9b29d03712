use Rattle.std.proofs.Common.{◌∙◌, map, arith}
use Rattle.database_model.specs.SegmentForm.{segment}
use Rattle.run_record.proofs.Parts.{items_of, segment_written, spells_whole}
use Rattle.run_record.proofs.writing.write_segment.Goals as goal

pub returns : goal.returns
returns c =
    let drains = rw c.deref.ensures.value at c.in_ok-put_drains.ensures in
    let losses = rw c.deref-2.ensures.value at c.in_ok-put_processors.ensures in
    spells_whole segment c.new-out.result.items c.put_processors.new.out.items c.args.s.now c.new-out.ensures.items
    (segment_written c.new-out.result.items c.put_numbers.new.out.items c.put_drains.new.out.items c.put_processors.new.out.items c.s.inside.run c.s.inside.part c.s.inside.last c.s.inside.first_epoch c.s.inside.drains.items
    (map items_of c.s.inside.losses.items) c.args.s.now c.wide-number.result c.wide-part.result c.bit_of-last.result c.wide-first_epoch.result c.len-count.result c.s.view_is c.requires c.wide-number.ensures.same c.wide-number.ensures.fits
    c.wide-part.ensures.same c.bit_of-last.ensures c.wide-first_epoch.ensures.same c.wide-first_epoch.ensures.fits (c.len-count.ensures ∙ c.s.inside.drains.ok.0) (c.in_ok-put_numbers.ensures.wide 5 0 (omega arith)) c.in_ok-put_numbers.ensures.ok drains losses)
