pub mod Shorter
pub mod Loans
pub mod Views
pub mod Orders
pub mod Clones
