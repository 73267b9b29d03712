-- The parts so far are renewed, and the store was only read.
use Rattle.std.proofs.Common.{◌≡◌, ◌++◌, map, Some}
use Rattle.std.specs.List.{AllByRecursion}
use Rattle.std.specs.Map.{keys_of}
use Rattle.store_io.specs.Files.{Files}
use Rattle.store_io.specs.Crashes.{OnlyReads}
use Rattle.epoch_store.specs.Databases.{head_of}
use Rattle.profile_merge.specs.Renewing.{IsGathered}
use Rattle.profile_merge.proofs.RenewSteps.{RenewedSoFar}
use Rattle.profile_merge.proofs.growing.renew_all.Given as goal

abbrev pub invariant-loop-owner : goal.invariant-loop-owner
invariant-loop-owner g l =
    (map (λ one. one.owner) l.all.items ++ keys_of l.owner-iterator ≡ keys_of l.parts.entries)
    × AllByRecursion (λ part. IsGathered l.gathered part.1) l.owner-iterator
    × ((files : Files) → g.D.Store.files l.fn.store ≡ Some files → RenewedSoFar l.gathered (head_of l.db) files l.parts.entries l.owner-iterator l.all.items)
    × OnlyReads (g.D.Store.files l.fn.store) (g.D.Store.files l.store) (g.D.Store.moment l.fn.store) (g.D.Store.moment l.store) (g.D.Store.left_since l.fn.store) (g.D.Store.left_since l.store)
    × (g.D.Store.faults l.store ≡ g.D.Store.faults l.fn.store)
    × (g.D.Store.origin l.store ≡ g.D.Store.origin l.fn.store)
