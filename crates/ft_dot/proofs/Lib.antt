pub mod Cutting
pub mod Reports
pub mod Stopping
