pub mod Books
pub mod Laws
