-- What a fresh term's counter does.
pub mod Step
