-- What callers cite.
pub mod Buffers
pub mod Parts
pub mod Sessions
pub mod Turns
