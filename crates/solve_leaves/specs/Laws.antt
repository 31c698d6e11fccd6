-- Laws in plain variables, cited by the proofs of the updates.
pub mod Cells
pub mod Frames
pub mod Answers
pub mod Leaves
pub mod Trials
