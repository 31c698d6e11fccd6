-- What follows from the definitions; nothing here has to be believed.
pub mod Laws
-- the table of small problems
pub mod SmallProblems
