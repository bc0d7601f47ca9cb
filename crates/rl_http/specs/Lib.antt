pub mod Answers
pub mod Caching
pub mod Forms
pub mod Heads
pub mod Replies
pub mod Routes
pub mod Sent
pub mod Serving
