-- Laws in plain variables, cited by the proofs of the functions.
pub mod Checking
-- no second outcome
pub mod Once
-- what the person who signs can rely on
pub mod Promise
