-- What callers cite.
pub mod Table
pub mod Pairs
pub mod Copies
-- What the crate keeps true of itself.
pub mod ShortList
