pub mod History
pub mod Index
pub mod Laws
pub mod Policy
pub mod Refusals
pub mod Seen
pub mod Viewer
