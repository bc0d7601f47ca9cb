pub mod Edges
pub mod Index
pub mod Least
