pub mod Numbered
pub mod Parting
