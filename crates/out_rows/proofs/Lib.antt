-- No second outcome fits a contract of this crate.
pub mod Once
