pub mod IndexKey
pub mod Live
pub mod OfKey
