-- What callers cite.
pub mod FileLines
pub mod WrittenOut
pub mod Places
pub mod WrittenPlans
pub mod Laws
-- What the crate keeps true of itself.
pub mod Writing
pub mod Counting
