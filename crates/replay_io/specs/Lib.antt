-- What a line has, what waits to be written, and where reading begins.
pub mod Line
pub mod Waits
pub mod Read
