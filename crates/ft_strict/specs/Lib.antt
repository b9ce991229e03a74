-- What callers cite.
pub mod Strict
