pub mod Places
pub mod Rows
pub mod Laws
pub mod Registry
pub mod Fine
