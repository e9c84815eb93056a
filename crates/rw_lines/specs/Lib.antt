pub mod Cut
pub mod Lines
pub mod Numerals
pub mod Reading
pub mod Tokens
pub mod Writing
