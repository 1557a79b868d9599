pub mod Labels
pub mod Laws
pub mod Order
pub mod Register
pub mod Renew
pub mod Slots
pub mod Table
