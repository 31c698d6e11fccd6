-- Laws in plain variables, cited by the proofs of the functions.
pub mod Fitting
pub mod Laying
pub mod Entering
pub mod Building
-- no second outcome
pub mod Once
-- what follows from the definitions
pub mod Laws
-- what the check promises
pub mod Promise
