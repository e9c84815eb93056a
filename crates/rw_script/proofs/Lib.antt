pub mod NameLaws
pub mod NamedLaws
pub mod WellFormedLaws
pub mod ReadingLaws
pub mod PlayLaws
pub mod Spared
mod FollowLaws
