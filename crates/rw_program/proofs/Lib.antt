mod ClapLemmas
pub mod FileRuns
pub mod Forgetting
pub mod Telling
mod ForgettingThreads
