pub mod Chunks
pub mod Cut
pub mod Found
pub mod Front
pub mod Numbers
