pub mod PartLaws
pub mod ReadingLaws
