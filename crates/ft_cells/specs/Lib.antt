-- What callers cite.
pub mod Limits
pub mod Nodes
pub mod Modes
pub mod Attributes
pub mod Entries
pub mod CellOrder
pub mod Cells
pub mod Looks
pub mod Plain
pub mod PlainCode
pub mod Rows
