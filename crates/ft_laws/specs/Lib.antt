-- What callers cite.
pub mod Lists
pub mod Calls
pub mod Laws
pub mod Runs
pub mod Effects
pub mod Settled
pub mod Hiding
pub mod Tiny
pub mod Without
pub mod Tidying
-- What the crate keeps true of itself.
pub mod Looks
