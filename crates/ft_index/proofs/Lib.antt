pub mod Listed
pub mod Changes
pub mod Runs
pub mod Maps
pub mod Probes
pub mod Growths
pub mod Indexes
