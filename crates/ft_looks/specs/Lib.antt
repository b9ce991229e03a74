-- What callers cite.
pub mod Sizes
-- What the crate keeps true of itself.
pub mod Notes
pub mod Rests
