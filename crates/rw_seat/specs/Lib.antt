pub mod Journals
pub mod HandOffs
pub mod Rule
pub mod LentBook
pub mod Fronts
pub mod Calls
pub mod DeskSeats
pub mod SeatDesks
