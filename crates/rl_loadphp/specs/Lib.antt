pub mod Served
pub mod Body
pub mod Refusal
pub mod Answer
pub mod Embed
pub mod Isolation
pub mod Sent
pub mod Steps
