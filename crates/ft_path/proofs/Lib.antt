pub mod Behind
pub mod Lasting
pub mod Fronting
pub mod Pieces
pub mod FirstSlash
pub mod Fronts
pub mod Mixing
pub mod Compared
