pub mod Texts
pub mod Calls
pub mod Notes
pub mod Meant
pub mod Printed
pub mod Again
pub mod Within
