-- What the code that names the terms of a line leaves.
pub mod Shape
pub mod Named
pub mod Call
-- what follows; nothing here has to be believed
pub mod Laws
