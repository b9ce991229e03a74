-- What callers cite.
pub mod Requests
pub mod Texts
pub mod Reports
pub mod Lines
pub mod Wells
