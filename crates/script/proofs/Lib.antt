pub mod Cutting
pub mod Figures
pub mod Matching
pub mod Rows
pub mod Newlines
pub mod Pasting
pub mod Faulty
pub mod Pushing
