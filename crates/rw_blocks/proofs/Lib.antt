pub mod Lists
pub mod Written
pub mod HandleLists
pub mod Floatless
