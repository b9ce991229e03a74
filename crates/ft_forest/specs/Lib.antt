-- What callers cite.
pub mod Transactions
pub mod Refusals
pub mod Records
-- What the crate keeps true of itself.
pub mod Limits
pub mod Places
