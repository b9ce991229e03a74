-- What callers cite.
pub mod Errno
pub mod FilePath
pub mod Hashed
pub mod Name
pub mod Judged
-- What the crate keeps true of itself.
pub mod Front
pub mod Kept
