pub mod Names
pub mod Steps
pub mod Words
pub mod Arguments
pub mod Rules
pub mod Code
pub mod Grammar
pub mod Terms
