pub mod Sight
pub mod BuiltIn
pub mod Context
pub mod Page
pub mod Sheet
pub mod Payload
