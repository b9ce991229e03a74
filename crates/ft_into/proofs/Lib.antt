pub mod Carried
pub mod Allowed
pub mod Listed
pub mod Removed
pub mod Bytes
pub mod Compared
pub mod Whole
