-- no second outcome
pub mod Once
