-- What callers cite.
pub mod Steps
pub mod Wishes
pub mod Makes
pub mod Carries
pub mod Knows
pub mod Removes
pub mod Compares
pub mod Allows
-- What the crate keeps true of itself.
pub mod Views
