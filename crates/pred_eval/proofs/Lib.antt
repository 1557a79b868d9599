pub mod WildLaws
pub mod TreeLaws
pub mod SearchLaws
pub mod BuildLaws
pub mod HostLaws
