-- What callers cite.
pub mod Guarded
pub mod Victims
pub mod Origins
pub mod Publishing
pub mod Opening
-- What the crate keeps true of itself.
pub mod Sharing
