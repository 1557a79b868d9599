pub mod Ends
pub mod ReplyLengths
pub mod ReplySpellings
