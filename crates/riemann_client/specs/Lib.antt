pub mod Exchange
pub mod Requests
pub mod Accepting
pub mod Client
pub mod Sending
pub mod Turning
pub mod Run
