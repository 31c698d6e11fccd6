-- The arguments behind the statements.
-- when a record holds
pub mod Nodes
-- updates never contradict an assignment that satisfies the problem
pub mod Forced
-- what goes through from a frame that sorts every term named, holds
pub mod Only
-- where answers come from; sorts of the table, the range
pub mod Answers
-- numbers and buffers at exit
pub mod Exit
-- updates without marks; more sorts give more or fail; marks only save work; what stands in a problem that settles, settles
pub mod Renumbered
pub mod Plain
pub mod Larger
pub mod Marks
pub mod Order
-- the statements put together
pub mod Whole
-- what can be relied on: this is to be read, the others are its arguments
pub mod Demand
-- what the definition of solving shuts out
pub mod Shut
