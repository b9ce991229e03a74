pub mod Cleared
pub mod Free
pub mod Reading
pub mod Stepping
pub mod Useless
pub mod Prefixes
pub mod LogAdding
