-- What callers cite.
pub mod Names
pub mod Meanings
pub mod Lines
