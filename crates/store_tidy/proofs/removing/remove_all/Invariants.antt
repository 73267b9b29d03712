-- The removals so far were made, and no call failed.
use Rattle.std.proofs.Common.{◌≡◌, take}
use Rattle.store_tidy.proofs.Gone.{Made}
use Rattle.store_tidy.proofs.removing.remove_all.Given as goal

abbrev pub invariant-loop-name : goal.invariant-loop-name
invariant-loop-name g l =
    (Made (take l.name-index l.names) (g.D.Store.files l.initial.store) (g.D.Store.files l.store) (g.D.Store.moment l.initial.store) (g.D.Store.moment l.store) (g.D.Store.left_since l.initial.store) (g.D.Store.left_since l.store))
    × (g.D.Store.faults l.store ≡ g.D.Store.faults l.initial.store)
    × (g.D.Store.origin l.store ≡ g.D.Store.origin l.initial.store)
