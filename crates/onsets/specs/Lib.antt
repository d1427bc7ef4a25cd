pub mod Onsets
pub mod Laws
