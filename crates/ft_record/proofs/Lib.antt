pub mod Places
pub mod Moving
pub mod Records
pub mod Crossing
