pub mod Documenting
pub mod Modifying
pub mod OneMember
pub mod Parting
pub mod Places
pub mod Renaming
pub mod Shaping
pub mod Specifying
