pub mod Positions
pub mod Seen
pub mod Missing
pub mod Spots
pub mod Edited
pub mod Laid
pub mod Coded
