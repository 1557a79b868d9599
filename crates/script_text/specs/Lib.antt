pub mod Words
pub mod Lines
pub mod Scripts
pub mod Grammar
pub mod LinkLines
pub mod NumberLaws
