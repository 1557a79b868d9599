pub mod IndexKeys
pub mod LiveLaws
pub mod Rising
pub mod PlacedLaws
pub mod OfKeyLaws
