pub mod Searching
pub mod Noted
pub mod Merging
pub mod Resting
