-- Laws about the definitions, a module for each group of them.
pub mod Walk
pub mod Names
pub mod Parts
pub mod Put
pub mod Cut
pub mod Table
