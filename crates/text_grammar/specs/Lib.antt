-- The grammar of a line, as a reader must believe it.
pub mod Bytes
pub mod Grammar
-- what follows; nothing here has to be believed
pub mod Laws
