-- Laws that several proofs cite.
pub mod ByKind
pub mod Counts
pub mod Whole
-- no second outcome, nothing asked
pub mod Once
