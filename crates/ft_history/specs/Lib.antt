-- What callers cite.
pub mod Logs
pub mod Forest
pub mod History
pub mod Locks
pub mod Undoing
pub mod Legal
pub mod Ledger
pub mod Orders
pub mod Core
pub mod Fates
pub mod Promises
pub mod Serial
pub mod Example
pub mod Without
pub mod Sharing
