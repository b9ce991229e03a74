pub mod Conjunction
pub mod MapViews
pub mod InOrder
pub mod CellViews
pub mod Splits
pub mod Gathered
