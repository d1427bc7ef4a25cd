pub mod Books
pub mod Values
pub mod Written
pub mod Laws
