pub mod Bytes
pub mod Digits
pub mod LineCuts
pub mod LinkRows
pub mod ModeTexts
pub mod PercentCoding
pub mod Reading
pub mod SixteenBytes
