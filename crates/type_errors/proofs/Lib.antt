-- No second outcome.
pub mod Once
