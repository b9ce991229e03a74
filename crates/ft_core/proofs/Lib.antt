pub mod Told
mod PastWalks
mod Gathered
pub mod Counts
pub mod Joining
pub mod Allowing
mod Reporting
pub mod Begins
mod Opening
mod Refusing
mod Owned
mod Accounts
mod Cores
mod RunsOn
mod Placing
mod Grants
mod Asks
mod Reverting
mod Reaching
mod Lists
pub mod Ends
mod Noted
mod Commits
mod Undoes
mod Aborts
mod Counted
mod Children
mod Surveys
mod Alone
mod Ended
mod Tallies
mod Families
mod Written
mod Sweeps
mod Checkpoints
pub mod Known
mod Asked
pub mod Legally
pub mod Crossing
pub mod Fronts
pub mod Memos
pub mod Tried
pub mod Learning
pub mod Behind
pub mod Deciding
pub mod Same
