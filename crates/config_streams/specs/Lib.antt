pub mod Sorts
pub mod Table
pub mod Given
pub mod Sources
pub mod Streams
pub mod Made
pub mod Grammar
