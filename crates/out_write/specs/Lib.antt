-- What reading and writing may come to.
pub mod Handed
-- what follows
pub mod Laws
pub mod Kept
