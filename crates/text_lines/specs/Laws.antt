-- Laws about a line and about the lines of a text.
pub mod Line
pub mod Taking
pub mod Run
pub mod Ending
