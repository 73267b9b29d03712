-- The names so far, and those among the texts that are left.
use Rattle.std.proofs.Common.{◌≡◌, List, map, ◌++◌}
use Rattle.std.specs.Prelude.{filter}
use Rattle.text_num.specs.Names.{is_name}
use Rattle.store_io.specs.Files.{contents}
use Rattle.store_io.proofs.order.names_among.Given as goal

abbrev pub invariant-loop-text : goal.invariant-loop-text
invariant-loop-text l = l.names.items ++ filter is_name (map contents l.text-iterator) ≡ filter is_name (map contents l.fn.texts.keys)
