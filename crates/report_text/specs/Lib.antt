pub mod Labels
pub mod Reports
pub mod Texts
pub mod Csvs
pub mod Orders
