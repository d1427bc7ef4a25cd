mod Freely
mod Alone
mod Backward
mod Forward
mod Meeting
pub mod Room
