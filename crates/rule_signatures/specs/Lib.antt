-- Signatures and terms, and what they give for arguments. Read in this order.
pub mod Shapes
pub mod Tables
pub mod Gives
pub mod Laid
-- what follows from the definitions
pub mod Laws
pub mod Turns
pub mod Cases
pub mod Kept
