pub mod Layout
pub mod Session
pub mod Values
pub mod Laws
