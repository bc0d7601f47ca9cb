pub mod Rows
pub mod Answered
pub mod Kept
pub mod Search
