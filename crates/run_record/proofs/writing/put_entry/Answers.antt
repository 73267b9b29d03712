use Rattle.std.proofs.Common.{◌∙◌}
use Rattle.run_record.proofs.Parts.{entry_written}
use Rattle.run_record.proofs.writing.put_entry.Goals as goal

pub returns : goal.returns
returns c =
    entry_written c.args.out.now.items c.put_numbers.new.out.items c.args.entry c.entry.inside.key c.entry.inside.count c.args.is_known c.wide-pid.result c.position_of-position.result c.from-code.result c.bit_of-bit.result c.wide-count.result
    c.entry.view_is c.entry.invariant c.wide-pid.ensures.same c.wide-pid.ensures.fits c.position_of-position.ensures.position c.position_of-position.ensures.fits (c.from-code.ensures ∙ c.code.ensures) c.bit_of-bit.ensures c.wide-count.ensures.same c.in_ok-put_numbers.ensures.ok
