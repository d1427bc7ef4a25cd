mod Left
mod Smallest
mod Priced
mod Row
mod Meeting
pub mod Sound
