-- The arguments: lists with what was put, blocks of records, a problem grown by one atom or action, what each gives, calls.
pub mod Put
pub mod Blocks
pub mod Carried
pub mod Laid
pub mod Grown
pub mod Gives
pub mod Asks
pub mod Calls
