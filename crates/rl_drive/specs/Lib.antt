pub mod Drives
pub mod Errors
pub mod Given
pub mod Hearing
pub mod Played
pub mod Player
pub mod Blamed
