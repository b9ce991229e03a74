-- What the crate keeps true of itself.
pub mod Asking
pub mod Giving
pub mod Hashes
pub mod EntryKeys
pub mod Slots
pub mod Lending
pub mod BulkReleased
