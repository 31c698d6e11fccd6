-- Adding to the lent lists.
pub mod Put
-- a cell of a table's entry; the terms lent with a rule
pub mod Field
pub mod Terms
-- what follows from the definitions
pub mod Laws
pub mod Kept
