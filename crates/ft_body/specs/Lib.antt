-- What callers cite.
pub mod Bytes
pub mod Paging
-- What the crate keeps true of itself.
pub mod Blocks
pub mod PutBack
