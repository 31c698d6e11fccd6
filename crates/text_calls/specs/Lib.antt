-- What a line of terms leaves.
pub mod Shape
pub mod Ask
pub mod Refusal
pub mod Line
-- what follows; nothing here has to be believed
pub mod Laws
