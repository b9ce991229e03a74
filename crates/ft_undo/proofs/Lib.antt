pub mod Undoing
pub mod Applied
pub mod Logging
pub mod Keeping
pub mod Fresh
