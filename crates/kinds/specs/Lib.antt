pub mod Lawful
pub mod Locomotives
pub mod Turnouts
pub mod Words
