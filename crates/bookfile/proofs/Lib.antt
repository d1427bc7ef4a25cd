pub mod Good
pub mod Return
pub mod Tempi
