pub mod Only
pub mod Returns
pub mod Told
pub mod Written
