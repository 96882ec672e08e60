pub mod Slots
pub mod Plans
pub mod Codes
