use Rattle.std.proofs.Common.{arith}
use Rattle.var_bytes.proofs.NumberLaws.{goes_on, goes_past, ends, ends_past, ends_in_zero, is_cut_off}
use Rattle.var_bytes.proofs.numbers.long_number.Goals as goal

pub returns-then-byte-eq0-clause-value : goal.returns-then-byte-eq0-clause-value
returns-then-byte-eq0-clause-value c =
    ends_in_zero c.loop-byte.value c.loop-byte.scale c.loop-byte.len c.loop-byte.byte-index c.args.bytes.now _ c.loop-byte-test.true c.if-byte-eq0.true c.loop-byte.invariant.told

pub returns-in_err-group-clause-value : goal.returns-in_err-group-clause-value
returns-in_err-group-clause-value c =
    let no = rw c.from.ensures at c.in_err-group.ensures in
    rw c.from_residual.ensures (ends_past c.loop-byte.value c.loop-byte.scale c.loop-byte.len c.loop-byte.byte-index c.args.bytes.now _ c.loop-byte-test.true c.if-byte-lt128.true (omega (arith, no)) c.loop-byte.invariant.told)

pub returns-in_err-checked_add-clause-value : goal.returns-in_err-checked_add-clause-value
returns-in_err-checked_add-clause-value c =
    let group = rw c.from.ensures at c.in_ok-group.ensures in
    rw c.from_residual-in_err-checked_add.ensures (ends_past c.loop-byte.value c.loop-byte.scale c.loop-byte.len c.loop-byte.byte-index c.args.bytes.now _ c.loop-byte-test.true c.if-byte-lt128.true (omega (arith, group.1, c.in_err-checked_add.ensures)) c.loop-byte.invariant.told)

pub returns-then-byte-lt128-clause-value : goal.returns-then-byte-lt128-clause-value
returns-then-byte-lt128-clause-value c =
    let group = rw c.from.ensures at c.in_ok-group.ensures in
    rw (c.in_ok-checked_add.ensures.1, group.1) (ends c.loop-byte.value c.loop-byte.scale c.loop-byte.len c.loop-byte.byte-index c.args.bytes.now _ c.loop-byte-test.true c.if-byte-lt128.true c.if-byte-eq0.false (omega (arith, group.1, c.in_ok-checked_add.ensures.0)) c.loop-byte.invariant.told)

pub returns-in_err-group-2-clause-value : goal.returns-in_err-group-2-clause-value
returns-in_err-group-2-clause-value c =
    let no = rw c.from-in-loop-byte.ensures at c.in_err-group-2.ensures in
    rw c.from_residual-in_err-group-2.ensures (goes_past c.loop-byte.value c.loop-byte.scale c.loop-byte.len c.loop-byte.byte-index c.args.bytes.now _ c.loop-byte-test.true c.if-byte-lt128.false (omega (arith, no)) c.loop-byte.invariant.told)

pub returns-in_err-value-clause-value : goal.returns-in_err-value-clause-value
returns-in_err-value-clause-value c =
    let group = rw c.from-in-loop-byte.ensures at c.in_ok-group-2.ensures in
    rw c.from_residual-in_err-value.ensures (goes_past c.loop-byte.value c.loop-byte.scale c.loop-byte.len c.loop-byte.byte-index c.args.bytes.now _ c.loop-byte-test.true c.if-byte-lt128.false (omega (arith, group.1, c.in_err-value.ensures)) c.loop-byte.invariant.told)

pub returns-in_err-scale-clause-value : goal.returns-in_err-scale-clause-value
returns-in_err-scale-clause-value c =
    rw c.from_residual-in_err-scale.ensures (goes_past c.loop-byte.value c.loop-byte.scale c.loop-byte.len c.loop-byte.byte-index c.args.bytes.now _ c.loop-byte-test.true c.if-byte-lt128.false (omega (arith, c.in_err-scale.ensures)) c.loop-byte.invariant.told)

pub loop-byte-preserved : goal.loop-byte-preserved
loop-byte-preserved c =
    let group = rw c.from-in-loop-byte.ensures at c.in_ok-group-2.ensures in
    record {
      len = omega arith;
      told = rw (c.in_ok-value.ensures.1, group.1, c.in_ok-scale.ensures.1) (goes_on c.loop-byte.value c.loop-byte.scale c.loop-byte.len c.loop-byte.byte-index c.args.bytes.now _ c.loop-byte-test.true c.if-byte-lt128.false c.loop-byte.invariant.told);
    }

pub returns-clause-value : goal.returns-clause-value
returns-clause-value c = is_cut_off c.loop-byte.value c.loop-byte.scale c.loop-byte.len c.loop-byte.byte-index c.args.bytes.now _ c.loop-byte-test.false c.loop-byte.invariant.told
