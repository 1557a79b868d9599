pub mod Trees
pub mod Searching
pub mod SoundLaws
pub mod NestingLaws
pub mod PatternLaws
pub mod PathLaws
