pub mod NumberLaws
pub mod EventLaws
pub mod RecordLaws
pub mod LoopLaws
pub mod FindLaws
pub mod PartLaws
pub mod OneLaws
pub mod WholeLaws
