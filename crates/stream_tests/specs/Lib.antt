pub mod Playing
pub mod Running
pub mod Same
pub mod Verdicts
