pub mod AddsLaws
pub mod AskLaws
pub mod TakenLaws
pub mod LoopLaws
pub mod EndLaws
