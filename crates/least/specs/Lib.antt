pub mod Minima
pub mod Readers
pub mod Laws
