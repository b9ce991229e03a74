-- What callers cite.
pub mod Held
pub mod Views
pub mod Walk
pub mod Tidy
pub mod Sound
pub mod Sweep
pub mod Fronts
