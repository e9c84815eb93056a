pub mod Journal
pub mod Laws
pub mod Outcomes
pub mod Numbers
pub mod Room
