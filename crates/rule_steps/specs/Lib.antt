-- What an atom or an action asks and gives, as a reader must believe it. Read in this order.
pub mod Ask
pub mod Given
-- what the contracts cite besides
pub mod Step
-- what follows from the definitions
pub mod Laws
pub mod Kept
