pub mod TapLine
pub mod Values
pub mod Pricing
pub mod Priced
pub mod Reasons
pub mod Laws
