-- What is left in the lent memory.
pub mod Front
-- what the rows that are put show, and what follows
pub mod Shows
