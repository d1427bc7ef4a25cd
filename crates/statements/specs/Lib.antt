pub mod Plain
pub mod Statements
pub mod Worked
