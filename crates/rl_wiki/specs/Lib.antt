pub mod Desk
pub mod Front
pub mod Opening
pub mod Wiki
