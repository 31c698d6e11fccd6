-- Laws of the definitions, proved once and cited by the proofs of code and by the crate `meaning`.
-- document 01's sentences about an update
pub mod Sentences
-- from, all, count, largest, joined
pub mod Lists
-- what a loop has left
pub mod Left
-- what a chain of iterators makes
pub mod Chains
-- the numbers of refusals
pub mod Numbers
-- sums over lists
pub mod Sums
-- one induction over the six updates; framed frames are kept
pub mod Kept
-- sorts stay, and an unchanged answer leaves them
pub mod Stays
-- how many entries an error has
pub mod Entries
-- what is known of a problem that is not refused
pub mod Refused
-- the passes end
pub mod Passes
-- what solving leaves
pub mod Solved
-- no second outcome of a function
pub mod Once
