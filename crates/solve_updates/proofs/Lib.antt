-- Laws in plain variables, cited by the proofs of the updates.
pub mod Lends
pub mod Ready
pub mod Steps
pub mod Own
pub mod Dispatch
pub mod Trials
