mod Clones
mod Keys
mod Slots
mod Shown
pub mod Seats
pub mod Indexed
pub mod Mapped
pub mod Ordered
