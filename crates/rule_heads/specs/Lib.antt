-- The alternatives of a head, and how their constraints are laid out. Read in this order.
pub mod Alternatives
pub mod Layout
pub mod Written
-- what follows from the definitions
pub mod Laws
pub mod Turns
pub mod Kept
