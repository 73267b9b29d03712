-- A catalog with no names.
use Rattle.std.proofs.Common.{rules}
use Rattle.image_catalog.proofs.Adding.{none_held}
use Rattle.image_catalog.proofs.catalog.Catalog.new.Goals as goal

pub invariant_of-result : goal.invariant_of-result
invariant_of-result c = none_held _ _ (search rules) (search rules)
