pub mod Requests
pub mod Answers
pub mod Setups
pub mod Status
pub mod Playing
pub mod Sizes
