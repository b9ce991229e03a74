pub mod Counting
pub mod Keeping
pub mod Lining
pub mod Places
pub mod PlanLines
pub mod Planned
pub mod Spacing
