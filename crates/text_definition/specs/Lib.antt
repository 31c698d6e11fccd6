-- The text, as a reader must believe it: from the bytes of an input to the bytes of the output. Read in this order, behind
-- the grammar (crate text_grammar).
pub mod Decls
pub mod Declare
pub mod Say
pub mod Run
pub mod Rows
-- how the code's numbers and lists stand for the tables
pub mod Store
