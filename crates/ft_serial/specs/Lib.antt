-- What callers cite.
pub mod Serials
pub mod CommittedCalls
-- What the crate keeps true of itself.
pub mod Asked
pub mod Walks
