pub mod WindowEvents
pub mod ThrottleLaws
pub mod BatchLaws
pub mod StableLaws
pub mod RollupLaws
