pub mod Arguments
pub mod Words
pub mod BroadcastWords
pub mod WatchWords
pub mod Texts
pub mod ReplyWords
