-- What callers cite.
pub mod Cuts
-- What the crate keeps true of itself.
pub mod Handles
pub mod Listing
pub mod Numbers
pub mod Answers
pub mod Flags
pub mod Asked
pub mod Opened
pub mod Parts
pub mod Reads
pub mod Waits
pub mod Lines
pub mod Locks
