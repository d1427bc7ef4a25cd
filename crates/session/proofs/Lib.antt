pub mod Called
pub mod Desk
pub mod Opened
pub mod Opening
pub mod Parts
pub mod Sent
