-- An empty store in memory of which no call is to fail.
use Rattle.std.specs.Prelude.{◌≡◌, true, []}
use Rattle.store_io.specs.declared.memory.MemStore.{MemStore}
use Rattle.store_io.specs.Memory.{changes_of, origin_of}

-- nothing was written to it, and it was made with no call that is to fail
pub record IsEmptyStore (store : MemStore) : Type 0 where
  pub unchanged : changes_of store ≡ []
  pub faultless : origin_of store ≡ true
