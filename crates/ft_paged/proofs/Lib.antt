pub mod Places
pub mod PagedWalks
pub mod Pages
pub mod ListPages
pub mod Groups
pub mod Tables
pub mod Maps
