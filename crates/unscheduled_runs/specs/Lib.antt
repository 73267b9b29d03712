pub mod Unscheduled
