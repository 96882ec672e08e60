pub mod Algorithm
pub mod Beside
