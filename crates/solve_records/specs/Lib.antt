-- What is lent, as the definition's problem; what reading a record gives; marks.
pub mod Lent
pub mod Read
pub mod Marks
