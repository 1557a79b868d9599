pub mod PlayLaws
pub mod LoadLaws
pub mod ServeLaws
