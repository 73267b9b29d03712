-- The names of the segments so far came to the set.
use Rattle.store_tidy.specs.Sets.{Gains}
use Rattle.store_tidy.specs.Unused.{segment_names}
use Rattle.store_tidy.proofs.used.put_segments.Given as goal

abbrev pub invariant-loop-before : goal.invariant-loop-before
invariant-loop-before l = Gains (segment_names l.before) l.initial.used.keys l.used.keys
