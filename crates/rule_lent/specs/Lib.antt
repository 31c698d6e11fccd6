-- Refusals 1 and 2 of a generator, as a reader must believe them. Read in this order.
pub mod Call
pub mod Fit
-- what the contracts cite besides
pub mod Numbers
pub mod Lend
-- what follows from the definitions
pub mod Laws
