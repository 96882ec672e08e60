pub mod Comparing
pub mod Counting
