mod Clones
pub mod Opened
