-- What callers cite.
pub mod Lines
pub mod Plans
-- What the crate keeps true of itself.
pub mod Parsing
