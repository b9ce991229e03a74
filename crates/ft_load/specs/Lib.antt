-- What callers cite.
pub mod Loads
pub mod Spellings
-- What the crate keeps true of itself.
pub mod Scripts
