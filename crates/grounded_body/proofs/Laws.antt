-- the arguments behind the statements
-- each constraint's records stand in the problem
pub mod Standing
-- solving sorts the least set that the constraints give
pub mod Least
-- the problem is not refused
pub mod Trees
pub mod Variables
pub mod Bodies
pub mod Whole
