pub mod ListLaws
pub mod MomentLaws
pub mod NumberLaws
pub mod QueueLaws
pub mod ScheduleLaws
