-- What callers cite.
pub mod Edges
pub mod Kinds
pub mod Waits
pub mod Behind
pub mod Cycles
-- What the crate keeps true of itself.
pub mod Listing
pub mod Walk
pub mod Stands
