pub mod Causes
pub mod Connection
pub mod Execution
pub mod Files
pub mod Memory
pub mod Reason
pub mod Recorded
pub mod Written
