pub mod EndingLaws
pub mod ReplyLaws
pub mod QueryLaws
pub mod ExchangeLaws
pub mod SendLaws
