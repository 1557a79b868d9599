pub mod Added
pub mod HubLink
pub mod Answering
pub mod Hearing
pub mod Sending
pub use Rattle.msg_replies.specs.event_core
pub use Rattle.msg_replies.specs.hub_meaning
pub use Rattle.msg_replies.specs as msg_replies
