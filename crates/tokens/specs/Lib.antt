pub mod Tokens
pub mod Laws
