-- What callers cite.
pub mod Rules
pub mod LockModes
pub mod CellLocks
pub mod Cells
pub mod Holdings
pub mod Locks
pub mod Seen
pub mod Blocking
pub mod Listing
pub mod Surveys
pub mod Law
pub mod Knowing
-- What the crate keeps true of itself.
pub mod Ranks
pub mod Groups
