pub mod Fit
pub mod Laws
