pub mod Answering
pub mod Keyed
pub mod Unnamed
pub mod Wording
