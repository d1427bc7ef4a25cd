pub mod Borrowed
pub mod Lines
pub mod Values
