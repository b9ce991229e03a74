-- What callers cite.
pub mod Gets
pub mod Runs
-- What the crate keeps true of itself.
pub mod ProgressTexts
pub mod Texts
