pub mod Past
pub mod Calls
pub mod Replay
pub mod Laws
pub mod Failing
pub mod MemDisk
