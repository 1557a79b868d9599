pub mod CoalesceLaws
pub mod EventLaws
pub mod FixedEventLaws
pub mod FixedTimeLaws
pub mod MovingTimeLaws
pub mod PutLaws
pub mod TickedLaws
