-- The range.
pub mod Enter
-- laws of its entries
pub mod Laws
