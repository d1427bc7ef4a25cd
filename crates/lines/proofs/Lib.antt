pub mod Borrowed
pub mod Replies
pub mod Told
