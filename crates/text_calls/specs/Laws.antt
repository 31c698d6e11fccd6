-- Laws about lines, a module for each group of them.
pub mod Shape
pub mod Ask
pub mod Told
pub mod Said
pub mod Once
