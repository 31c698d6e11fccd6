-- The generators, as a reader must believe them, after the specs of rule_steps. Read in this order.
pub mod Exit
pub mod Table
-- what the contracts cite besides
pub mod Left
-- what follows from the definitions
pub mod Laws
pub mod Kept
