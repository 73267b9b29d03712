-- The names so far, and those among the names that are left.
use Rattle.std.proofs.Common.{◌≡◌, ◌++◌, ◌&&◌}
use Rattle.std.specs.Prelude.{filter, not}
use Rattle.store_io.specs.Listing.{is_listed}
use Rattle.store_tidy.specs.FileForms.{is_file_name}
use Rattle.store_tidy.proofs.used.unused_among.Given as goal

abbrev pub invariant-loop-name : goal.invariant-loop-name
invariant-loop-name l = l.unused.items ++ filter (λ n. is_file_name n && not (is_listed n l.used.keys)) l.name-iterator.rest.items ≡ filter (λ n. is_file_name n && not (is_listed n l.used.keys)) l.fn.names.items
