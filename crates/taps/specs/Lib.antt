pub mod Readings
pub mod Calls
pub mod Promise
pub mod Items
pub mod Values
pub mod Worked
pub mod BuiltIn
