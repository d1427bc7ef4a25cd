pub mod Rows
pub mod Walk
pub mod Laws
