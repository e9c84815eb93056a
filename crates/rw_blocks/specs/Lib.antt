pub mod Labels
pub mod Handles
pub mod BroadcastBlock
pub mod WatchBlock
pub mod Blocks
pub mod Json
