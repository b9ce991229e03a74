pub mod Committed
pub mod Pairs
pub mod Told
pub mod Unrun
