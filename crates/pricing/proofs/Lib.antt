pub mod Held
pub mod Prices
pub mod Priced
pub mod Agree
