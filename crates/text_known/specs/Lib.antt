-- What the names of a line are tested by, over tables.
pub mod Known
-- what follows; nothing here has to be believed
pub mod Laws
