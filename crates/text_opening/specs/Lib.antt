-- How a line is opened.
pub mod Opening
-- what follows
pub mod Laws
