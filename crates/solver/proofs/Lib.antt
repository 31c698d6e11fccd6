-- Laws in plain variables about the passes and what is around them, cited by the proofs of the functions.
pub mod Alike
pub mod Opening
pub mod Finishing
pub mod Running
pub mod Solving
-- no second outcome of the entry point
pub mod Once
-- demand 3 at the entry point
pub mod Promise
