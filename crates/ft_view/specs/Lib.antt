-- What callers cite.
pub mod Replay
pub mod Reading
pub mod Shown
pub mod ViewNames
-- What the crate keeps true of itself.
pub mod Cleared
pub mod LogRules
