-- What follows from the definitions.
pub mod Room
pub mod Reading
pub mod Adding
