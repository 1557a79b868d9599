pub mod Moves
pub mod Arriving
pub mod Longer
pub mod Visits
pub mod Receiving
