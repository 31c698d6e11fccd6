-- Bytes and words, as a reader must believe them. Read in this order.
pub mod Bytes
pub mod Names
pub mod Parts
pub mod Put
-- what follows from the definitions; nothing here has to be believed
pub mod Laws
