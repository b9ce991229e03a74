-- What callers cite.
pub mod Stored
pub mod Lending
pub mod Named
-- What the crate keeps true of itself.
pub mod Keyed
