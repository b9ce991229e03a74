pub mod Indexing
pub mod Rows
pub mod Refusing
