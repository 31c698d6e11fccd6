-- How the code's frames, answers and lists stand for those of the definition.
pub mod Room
pub mod Says
pub mod Leaf
pub mod Trial
pub mod Firing
-- what follows; nothing here has to be believed
pub mod Laws
pub mod Kept
