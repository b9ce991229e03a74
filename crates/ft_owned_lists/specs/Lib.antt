-- What callers cite.
pub mod OwnedLists
pub mod Linked
pub mod Lent
