pub mod RequestLaws
pub mod AcceptLaws
pub mod HearLaws
pub mod KnownLaws
pub mod SendLaws
pub mod TurnLaws
pub mod LoopLaws
pub mod RunLaws
