-- What callers cite.
pub mod Roomy
-- What the crate keeps true of itself.
pub mod Paged
