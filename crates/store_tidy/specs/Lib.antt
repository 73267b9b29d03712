pub mod Faults
pub mod FileForms
pub mod Named
pub mod Removals
pub mod Sets
pub mod Unused
