pub mod Replies
pub mod Waiters
pub mod Steps
