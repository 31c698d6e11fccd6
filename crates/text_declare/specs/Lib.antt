-- What a line that declares leaves, in the code's numbers and lists.
pub mod Forms
pub mod Steps
pub mod Signatures
pub mod After
-- what follows; that it is what the text's definition asks is the last
pub mod Laws
pub mod Kept
pub mod Lines
