-- What the crate keeps true of itself.
pub mod Openings
