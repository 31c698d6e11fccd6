-- How the lines of a text are read.
pub mod Lists
pub mod Line
pub mod Run
pub mod Ending
-- what follows
pub mod Laws
