-- What is lent for the rows of the output, and the room that they take.
pub mod Pieces
pub mod Row
pub mod Shown
pub mod Entries
pub mod Rows
pub mod Room
-- what follows from the definitions; nothing here has to be believed
pub mod Laws
pub mod Fits
pub mod Few
pub mod Promise
pub mod Kept
