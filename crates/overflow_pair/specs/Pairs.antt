-- The pair, as the definitions of the driver see it.
use Rattle.driver_model.specs.Driver.{Buffers}
use Rattle.overflow_pair.specs.Contents.{entries_if}
use Rattle.overflow_pair.specs.declared.pairs.Pair.{Pair}

-- the active buffer's entries with the numbers of the pair
abbrev pub buffers_of : Pair → Buffers
buffers_of p = record {
  active = entries_if p.active;
  active_number = p.active_number;
  next = p.next;
  hands0 = p.hands0;
  hands1 = p.hands1;
}
