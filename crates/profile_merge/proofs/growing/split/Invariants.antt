-- The profiles so far stand in their lists.
use Rattle.std.proofs.Common.{◌≡◌, ◌++◌}
use Rattle.profile_merge.specs.Renewing.{known_files, unknown_files}
use Rattle.profile_merge.proofs.growing.split.Given as goal

abbrev pub invariant-loop-one : goal.invariant-loop-one
invariant-loop-one l =
    (l.known.items ++ known_files l.one-iterator.rest.items ≡ known_files l.fn.all.items)
    × (l.unknown.items ++ unknown_files l.one-iterator.rest.items ≡ unknown_files l.fn.all.items)
