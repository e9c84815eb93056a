pub mod Telling
pub mod Lasting
pub mod Recorded
