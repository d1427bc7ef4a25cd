pub mod Numbers
pub mod Steps
mod Bounds
pub mod Tables
pub mod Kept
pub mod Walk
