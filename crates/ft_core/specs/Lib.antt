-- What callers cite.
pub mod Histories
pub mod Limits
pub mod States
pub mod Living
pub mod Steps
pub mod Promises
pub mod Journals
pub mod Laws
pub mod Kept
pub mod Reports
pub mod Sweeps
pub mod Reached
pub mod FullOutcomes
pub mod Fairness
-- What the crate keeps true of itself.
pub mod Faults
pub mod Surveys
pub mod Opens
pub mod Makes
pub mod Tries
pub mod Requested
pub mod Taking
pub mod Handing
pub mod PastCode
pub mod Noted
pub mod Memos
