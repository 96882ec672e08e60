pub mod Fronts
pub mod Same
pub mod Validations
pub mod Spared
pub mod Calls
pub mod Commits
pub mod Followed
