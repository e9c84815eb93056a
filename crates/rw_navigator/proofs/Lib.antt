pub mod Debugging
pub mod Indexing
pub mod MoveLists
pub mod MovesMade
pub mod Searches
pub mod Visits
