pub mod Books
pub mod Only
pub mod Returns
pub mod Written
