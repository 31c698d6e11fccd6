-- Example texts with their outputs, as the checker computes them.
pub mod Examples
