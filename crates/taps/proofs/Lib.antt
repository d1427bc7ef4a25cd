pub mod Good
pub mod Ends
pub mod Between
pub mod Picks
