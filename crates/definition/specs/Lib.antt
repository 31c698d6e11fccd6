-- Solving, as a reader must believe it. Read in this order.
pub mod Sizes
pub mod Lists
pub mod Problem
pub mod Frame
pub mod Update
pub mod Solve
pub mod Refusal
pub mod Buffers
pub mod Meaning
pub mod Table
-- words of contracts between crates: a record that fits, a size, a framed frame
pub mod Fits
-- the numbers of refusals and kinds, as the code's enums have them
pub mod Numbers
