pub mod Headline
pub mod Replay
pub mod Replies
pub mod Session
pub mod Shared
pub mod Summary
