pub mod KeyMoments
pub mod KeyValues
pub mod SplitLaws
pub mod PlainLaws
pub mod PartLaws
pub mod TreeLaws
