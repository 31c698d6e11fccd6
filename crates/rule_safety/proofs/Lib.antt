-- the arguments
pub mod Laws
-- what is promised
pub mod Promise
