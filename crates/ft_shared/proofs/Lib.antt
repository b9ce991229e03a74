mod OfCores
pub mod Staying
pub mod Ends
pub mod Feeding
pub mod Readable
pub mod Crossing
pub mod Noting
