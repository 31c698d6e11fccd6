-- what follows from the definition of runs
pub mod Runs
