-- What callers cite.
pub mod Values
pub mod Lines
pub mod Fronts
