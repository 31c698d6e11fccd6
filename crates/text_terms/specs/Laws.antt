-- Laws about naming terms and about a line's call, a module for each group of them.
pub mod Names
pub mod Naming
pub mod Line
pub mod Call
