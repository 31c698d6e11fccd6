-- what grounded_check promises
pub mod Entry
