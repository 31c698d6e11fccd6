-- a type error as numbers
pub mod Told
