pub mod Told
pub mod Renumbered
pub mod Queue
pub mod Waitable
pub mod Listed
pub mod Steps
pub mod Broadcasts
pub mod Watches
