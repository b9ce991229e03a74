pub mod Accounts
pub mod Told
pub mod Ending
pub mod Following
pub mod Fronts
pub mod Begun
pub mod Placed
