-- No second outcome fits the contract of `open_line`.
pub mod Once
