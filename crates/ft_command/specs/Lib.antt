-- What callers cite.
pub mod CommandLine
-- What the crate keeps true of itself.
pub mod Limits
pub mod Places
