pub mod CarryLaws
pub mod CommandLaws
pub mod WordLaws
pub mod IndexedLaws
