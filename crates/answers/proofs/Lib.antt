mod Steps
pub mod Kept
pub mod Returned
pub mod Always
pub mod Promised
