pub mod KeepLaws
pub mod PrefixLaws
