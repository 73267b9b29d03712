use Rattle.std.proofs.Common.{◌≡◌, ◌+◌, ◌-◌, ◌<◌, length, ◌∙◌, arith, rules}
use Rattle.std.proofs.lemmas.List.{length-set}
use Rattle.text_num.proofs.Writing.{none_written, next_written, all_written, room_left}
use Rattle.text_num.proofs.numbers.write_hex.Goals as goal

pub loop-left-init : goal.loop-left-init
loop-left-init c =
    let size : length c.args.buffer.now ≡ 16 = omega arith in record {
      size = size;
      most = omega arith;
      room = omega (arith, c.ranges.n.fits);
      some = omega arith;
      told = none_written c.args.n c.args.buffer.now size;
    }

pub loop-left-preserved : goal.loop-left-preserved
loop-left-preserved c =
    let l = c.loop-left in
    let left = room_left l.at l.left c.loop-left-test.true l.invariant.room in record {
      size = length-set l.buffer (l.at - 1) c.hex_digit.result ∙ l.invariant.size;
      most = omega (arith, l.invariant.most);
      room = left.1;
      some = omega (arith, left.0);
      told = next_written l.at l.left c.hex_digit.result l.buffer l.invariant.some (omega (arith, l.invariant.most, l.invariant.size)) c.loop-left-test.true c.hex_digit.ensures ∙ l.invariant.told;
    }

pub returns-clause-written : goal.returns-clause-written
returns-clause-written c =
    let l = c.loop-left in
    all_written l.at l.left c.hex_digit-2.result l.buffer l.invariant.some (omega (arith, l.invariant.most, l.invariant.size)) (omega (arith, c.loop-left-test.false)) c.hex_digit-2.ensures ∙ l.invariant.told
