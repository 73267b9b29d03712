pub mod Parcels
pub mod Handoff
pub mod Doorbell
pub mod Ends
