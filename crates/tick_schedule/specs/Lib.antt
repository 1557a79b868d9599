pub mod Lists
pub mod Moments
pub mod Numbers
pub mod Queue
pub mod Schedule
