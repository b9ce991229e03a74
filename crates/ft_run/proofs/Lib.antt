pub mod Ends
pub mod Fronts
pub mod GivenFiles
pub mod Paced
pub mod Savings
