pub mod Cutting
pub mod Gathered
pub mod Reading
pub mod Running
pub mod Stopping
pub mod SetupFresh
pub mod SetupRunning
