-- No second outcome fits the contracts of the public functions that are equations.
pub mod Once
