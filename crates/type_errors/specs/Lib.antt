-- an error as a type error
pub mod TypeErrors
