-- The fault of a database that an error of the store becomes.
use Rattle.store_io.specs.declared.errors.StoreError.{StoreError}
use Rattle.store_io.specs.declared.errors.StoreError.TheVariants as store
use Rattle.database_state.specs.declared.faults.DbFault.{DbFault}
use Rattle.database_state.specs.declared.faults.DbFault.TheVariants.{StoreFault, Memory}

-- a failure of the store, or want of memory
abbrev pub fault_of : StoreError → DbFault
fault_of store.Failed = StoreFault
fault_of store.Memory = Memory
