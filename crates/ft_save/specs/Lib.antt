-- What callers cite.
pub mod Saves
-- What the crate keeps true of itself.
pub mod Reading
pub mod Trees
pub mod Sources
