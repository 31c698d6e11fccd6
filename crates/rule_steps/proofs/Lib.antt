-- What belongs to no one function.
pub mod Rooms
pub mod Reached
pub mod Once
