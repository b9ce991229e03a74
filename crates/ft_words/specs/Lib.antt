-- What callers cite.
pub mod Spelling
pub mod Modes
pub mod Calls
pub mod Texts
pub mod CallTexts
-- What the crate keeps true of itself.
pub mod Verbs
pub mod Arguments
