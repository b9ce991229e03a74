-- What the crate keeps true of itself.
pub mod Changes
pub mod Drafts
pub mod Judged
pub mod Opened
