pub mod WordLaws
pub mod ArgumentLaws
mod ShapeLaws
mod BroadcastTables
mod WatchTables
pub mod TextLaws
pub mod ReplyWordLaws
pub mod CutLengths
pub mod LineLaws
pub mod Spared
