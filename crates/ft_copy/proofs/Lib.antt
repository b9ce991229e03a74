mod Same
pub mod Doing
pub mod Walking
pub mod Visiting
pub mod Telling
pub mod Stopping
