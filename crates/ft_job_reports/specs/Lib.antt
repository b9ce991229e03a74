-- What callers cite.
pub mod Asked
pub mod Reports
-- What the crate keeps true of itself.
pub mod Reading
