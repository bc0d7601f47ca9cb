pub mod Grammar
pub mod Laws
pub mod Output
pub mod Script
pub mod Unready
