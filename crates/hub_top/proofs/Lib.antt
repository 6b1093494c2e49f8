pub mod Solved
pub mod Writing
pub mod OneTexts
pub mod Answered
pub mod StatusMeanings
pub mod Completions
pub mod Headlines
pub mod Runs
