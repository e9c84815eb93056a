pub mod Kept
pub mod Answering
pub mod Scripting
pub mod SessionEnds
pub mod Listing
pub mod ConditionReading
pub mod Beginnings
