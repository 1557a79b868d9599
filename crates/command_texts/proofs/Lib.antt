pub mod ConvertLaws
pub mod CheckLaws
