-- What callers cite.
pub mod Recording
pub mod Recent
pub mod Going
-- What the crate keeps true of itself.
pub mod Recorded
