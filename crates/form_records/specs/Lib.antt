-- A list of records and its cells; what the check over records answers and leaves.
pub mod Cells
pub mod Left
