pub mod RunLaws
pub mod LinkLaws
pub mod PrefixLaws
pub mod ExampleLaws
