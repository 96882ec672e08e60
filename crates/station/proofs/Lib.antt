pub mod Leading
pub mod Answering
