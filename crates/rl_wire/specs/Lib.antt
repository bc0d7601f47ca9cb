pub mod Message
pub mod Payload
pub mod Line
pub mod Tokens
pub mod Arguments
pub mod Reading
pub mod Startup
pub mod StartupReading
