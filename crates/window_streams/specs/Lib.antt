pub mod Coalesce
pub mod FixedEvent
pub mod FixedTime
pub mod MovingEvent
pub mod MovingTime
pub mod Stretch
