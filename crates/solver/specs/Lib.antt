-- The passes, how they end, and what is left after them.
pub mod Finish
pub mod Run
-- the contract of the entry point
pub mod Entry
