-- Laws that several proofs cite.
pub mod Steps
-- no second outcome
pub mod Once
