pub mod Asking
pub mod Counts
pub mod Lending
pub mod Prefix
pub mod Window
