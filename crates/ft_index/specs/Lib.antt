-- What callers cite.
pub mod Mix
-- What the crate keeps true of itself.
pub mod Slots
pub mod Probing
