pub mod Restricted
pub mod Owed
pub mod Rows
pub mod Laws
