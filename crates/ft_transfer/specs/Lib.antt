-- What callers cite.
pub mod Disk
pub mod Words
pub mod Answers
pub mod Transfers
