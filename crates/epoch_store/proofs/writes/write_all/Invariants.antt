-- The writes so far were made, and no call failed.
use Rattle.std.proofs.Common.{◌≡◌, take}
use Rattle.epoch_store.proofs.Phases.{Made}
use Rattle.epoch_store.proofs.writes.write_all.Given as goal

abbrev pub invariant-loop-write : goal.invariant-loop-write
invariant-loop-write g l =
    (Made (take l.write-index l.writes) (g.D.Store.files l.initial.store) (g.D.Store.files l.store) (g.D.Store.moment l.initial.store) (g.D.Store.moment l.store) (g.D.Store.left_since l.initial.store) (g.D.Store.left_since l.store))
    × (g.D.Store.faults l.store ≡ g.D.Store.faults l.initial.store)
    × (g.D.Store.origin l.store ≡ g.D.Store.origin l.initial.store)
