pub mod LinkLaws
pub mod ListLaws
pub mod RingLaws
