mod More
mod Opened
mod PathsJudged
mod Targets
