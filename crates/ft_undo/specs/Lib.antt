-- What callers cite.
pub mod Undone
pub mod Logs
pub mod LogRecord
-- What the crate keeps true of itself.
pub mod Was
