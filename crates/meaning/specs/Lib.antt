-- What solving means. Read Words, and then Demand in proofs/; its arguments stand beside it.
pub mod Words
