-- What callers cite.
pub mod Told
pub mod Kept
pub mod Asked
pub mod Walks
pub mod Runs
pub mod Stops
