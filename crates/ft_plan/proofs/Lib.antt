pub mod Behind
pub mod Grouping
pub mod Names
pub mod Naming
pub mod Placing
