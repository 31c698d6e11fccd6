-- No second answer fits the contract of `read_text`.
pub mod Once
