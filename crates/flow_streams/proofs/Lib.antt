pub mod FoldLaws
pub mod KeptLaws
