-- groundedness: the body, the problem it makes, the check
pub mod Body
pub mod Layout
pub mod Check
-- the kinds of atoms and terms
pub mod Kinds
-- what the functions ask and promise
pub mod Parts
-- and what the check means
pub mod Demand
