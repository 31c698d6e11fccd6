-- Laws that several proofs cite, and at the end what the contracts of the public functions settle.
pub mod Bools
pub mod Values
pub mod Marking
pub mod Named
pub mod Depths
pub mod Refusals
pub mod Once
