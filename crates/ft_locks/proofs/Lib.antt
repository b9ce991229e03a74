pub mod Slots
pub mod Hashed
pub mod Loans
pub mod EntryKeys
pub mod Nameless
pub mod Listed
pub mod TakenBack
pub mod GivenUp
