pub mod Index
pub mod Lending
pub mod Slots
