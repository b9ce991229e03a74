-- What callers cite.
pub mod FaultLines
pub mod Giving
pub mod SavesInto
pub mod Statuses
