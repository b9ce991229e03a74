-- What callers cite.
pub mod Reading
pub mod Drawn
-- What the crate keeps true of itself.
pub mod Drawing
