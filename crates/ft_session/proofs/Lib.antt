pub mod Crossing
mod Refused
mod Turning
