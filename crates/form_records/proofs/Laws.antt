-- What follows from the definitions.
pub mod Flat
pub mod Prefix
pub mod Checks
pub mod Fields
